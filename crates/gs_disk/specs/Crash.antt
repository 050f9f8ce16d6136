-- What `MemDisk::crash` keeps.
use Rattle.std.specs.Prelude.{◌≡◌, ◌⊎◌, ℕ, ◌+◌, ◌<◌, ◌≤◌, List, [], ◌∷◌, length, slice_index, Option, Some, None, MatchOption}
use Rattle.gs_disk.specs.Folder.{Folder, Outside}
use Rattle.gs_disk.specs.Images.{Range, Unsynced, Unwritten}
use Rattle.gs_disk.specs.declared.crash.Keep.{Keep}
use Rattle.gs_disk.specs.declared.crash.Keep.TheVariants.{Nothing, All, Byte}

-- as long as before, with b in each byte that was written
pub record IsFilled (written : List Range) (x : List ℕ) (b : ℕ) (file left : List ℕ) : Type 0 where
  pub long : length left ≡ length file
  pub kept : (k : ℕ) → k < length file → Unwritten written x k
      → slice_index left k ≡ slice_index file k
  pub filled : (k : ℕ) → k < length file → (Unwritten written x k → ⊥) → slice_index left k ≡ b

abbrev pub FillsFile : List Range → List ℕ → ℕ → Option (List ℕ) → Option (List ℕ) → Type 0
FillsFile written x b file left = MatchOption file (left ≡ None) (λ bytes. (fill : List ℕ)
    × (left ≡ Some fill) × IsFilled written x b bytes fill)

-- each name that was created or removed has the one byte b, and each other file its length and b
-- where it was written
pub record HasByte (b : ℕ) (u : Unsynced) (reads left : Folder) : Type 0 where
  pub renamed : (x : List ℕ) → (Outside u.renamed x → ⊥) → left x ≡ Some (b ∷ [])
  pub others : (x : List ℕ) → Outside u.renamed x → FillsFile u.written x b (reads x) (left x)

-- the folder at the last sync, the folder as it reads, or the bytes b
abbrev pub IsKept : Keep → Unsynced → Folder → Folder → Type 0
IsKept Nothing u reads left = left ≡ u.synced
IsKept All u reads left = left ≡ reads
IsKept (Byte b) u reads left = HasByte b u reads left

-- as long as before, with b from `at` on as far as the file goes
pub record IsRangeFilled (at len b : ℕ) (file left : List ℕ) : Type 0 where
  pub long : length left ≡ length file
  pub kept : (k : ℕ) → k < length file → (k < at) ⊎ (at + len ≤ k)
      → slice_index left k ≡ slice_index file k
  pub filled : (k : ℕ) → k < length file → at ≤ k → k < at + len → slice_index left k ≡ b

abbrev pub FillsRange : ℕ → ℕ → ℕ → Option (List ℕ) → Option (List ℕ) → Type 0
FillsRange at len b file left = MatchOption file (left ≡ None) (λ bytes. (fill : List ℕ)
    × (left ≡ Some fill) × IsRangeFilled at len b bytes fill)
