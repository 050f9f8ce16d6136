-- Folders, and what the calls of a disk do to what reads.
use Rattle.std.specs.Prelude.{◌≡◌, ◌≢◌, ℕ, ◌+◌, ◌-◌, ◌^◌, min, ◌≤◌, ◌<◌, List, [], ◌∷◌, ◌++◌, length, take, drop, slice_index_or, Option, Some, None, MatchOption, Result, IsErrOf}
use Rattle.std.specs.Ordering.{nat_cmp}
use Rattle.std.specs.Cmp.Lexicographic.{slice_cmp}
use Rattle.std.specs.declared.cmp.Ordering.TheVariants.{Less}
use Rattle.gs_types.specs.Counts.{Caused}
use Rattle.gs_disk.specs.declared.disk.DiskErr.{DiskErr}
use Rattle.gs_disk.specs.declared.disk.DiskErr.TheVariants.{Fault, Memory}

-- what stands under each name
abbrev pub Folder : Type 0
Folder = List ℕ → Option (List ℕ)

-- a disk as clauses see it: the folder as it reads, what a crash may leave, and how many faults and
-- memory refusals it had
pub record DiskState : Type 1 where
  pub folder : Folder
  -- a number that doesn't fall
  pub moment : ℕ
  -- what a crash at some moment from that one on might have left
  pub left_since : ℕ → Folder → Type 0
  pub faults : ℕ
  pub refusals : ℕ

-- nothing was changed
pub record Same (old new : Folder) : Type 0 where
  pub is : new ≡ old

-- none of these names
abbrev pub Outside : List (List ℕ) → List ℕ → Type 0
Outside [] x = Unit {0}
Outside (name ∷ names) x = (x ≢ name) × Outside names x

-- all other files are the same
pub record KeepsOthers (names : List (List ℕ)) (old new : Folder) : Type 0 where
  pub each : (x : List ℕ) → Outside names x → new x ≡ old x

-- a range of a file was written: anything in it and past the old end
pub record Torn (at n : ℕ) (old new : List ℕ) : Type 0 where
  pub no_shorter : length old ≤ length new
  pub before : at ≤ length old → take at new ≡ take at old
  pub beyond : length old ≤ at → take (length old) new ≡ old
  pub after : at + n ≤ length old → drop (at + n) new ≡ drop (at + n) old
  pub no_longer : at + n ≤ length old → length new ≡ length old

abbrev pub TornFile : ℕ → ℕ → Option (List ℕ) → Option (List ℕ) → Type 0
TornFile at n old new = MatchOption old (new ≡ None) (λ bytes. (torn : List ℕ) × (new ≡ Some torn)
    × Torn at n bytes torn)

pub record Tears (name : List ℕ) (at n : ℕ) (old new : Folder) : Type 0 where
  pub others : KeepsOthers (name ∷ []) old new
  pub file : TornFile at n (old name) (new name)

-- old with these bytes at this offset
abbrev pub overwritten : ℕ → List ℕ → List ℕ → List ℕ
overwritten at bytes old = take at old ++ bytes ++ drop (at + length bytes) old

-- a write of n bytes may begin here: the file is present and at least so long, and no byte comes
-- past 2^40
abbrev pub MayWrite : ℕ → ℕ → Option (List ℕ) → Type 0
MayWrite at n file = MatchOption file ⊥ (λ bytes. (at ≤ length bytes) × (at + n ≤ 2 ^ 40))

-- n bytes from `at` on were read to the buffer's front
abbrev pub IsRead : ℕ → ℕ → Option (List ℕ) → List ℕ → List ℕ → Type 0
IsRead at n file old new = MatchOption file ((n ≡ 0) × (new ≡ old))
    (λ bytes. (n ≡ min (length old) (length bytes - at))
    × (new ≡ take n (drop at bytes) ++ drop n old))

-- the counts don't fall, and an error has its cause
pub record HasCause {T : Type 0} (old new : DiskState) (result : Result T DiskErr) : Type 0 where
  pub faults : Caused (IsErrOf result Fault) old.faults new.faults
  pub refusals : Caused (IsErrOf result Memory) old.refusals new.refusals

-- in rising order of bytes
abbrev pub Rise : List (List ℕ) → Type 0
Rise names = (i : ℕ) → i + 1 < length names → slice_cmp nat_cmp (slice_index_or names i [])
    (slice_index_or names (i + 1) []) ≡ Less

abbrev pub Has : List ℕ → List (List ℕ) → Type 0
Has x names = (i : ℕ) × (i < length names) × (slice_index_or names i [] ≡ x)
