-- Which folders a crash may leave: the images.
use Rattle.std.specs.Prelude.{◌≡◌, ◌⊎◌, ℕ, ◌+◌, ◌≤◌, ◌<◌, List, [], ◌∷◌, length, slice_index, Option, Some, None, MatchOption}
use Rattle.gs_disk.specs.Folder.{Folder, Outside}

-- so many bytes of a file, from `at` on
pub record Range : Type 0 where
  pub name : List ℕ
  pub at : ℕ
  pub len : ℕ

-- what was done since the last sync that succeeded. A call in progress, and a call that failed,
-- count as done
pub record Unsynced : Type 0 where
  -- the folder at that sync
  pub synced : Folder
  -- the names that were created or removed since; removing an absent file is no removal
  pub renamed : List (List ℕ)
  pub written : List Range

-- the byte k of the file x was not written
abbrev pub Unwritten : List Range → List ℕ → ℕ → Type 0
Unwritten [] x k = Unit {0}
Unwritten (r ∷ rs) x k = (r.name ≡ x → r.at ≤ k → k < r.at + r.len → ⊥) × Unwritten rs x k

-- no write of the file x went past this end
abbrev pub EndsBy : List Range → List ℕ → ℕ → Type 0
EndsBy [] x end = Unit {0}
EndsBy (r ∷ rs) x end = (r.name ≡ x → r.at + r.len ≤ end) × EndsBy rs x end

-- what may be left of a file's bytes: its length, or any length from it on where a write went past
-- its end, with any bytes there and where it was written
pub record MayRead (written : List Range) (x old new : List ℕ) : Type 0 where
  pub no_shorter : length old ≤ length new
  pub no_longer : EndsBy written x (length old) → length new ≡ length old
  pub kept : (k : ℕ) → k < length old → Unwritten written x k
      → slice_index new k ≡ slice_index old k

-- a file stands where it stood at the sync, with such bytes
abbrev pub MayStand : List Range → List ℕ → Option (List ℕ) → Option (List ℕ) → Type 0
MayStand written x old new = MatchOption old (new ≡ None) (λ bytes. (left : List ℕ)
    × (new ≡ Some left) × MayRead written x bytes left)

-- a name that was created or removed is absent or has any bytes, and so nothing is said of it; each
-- other file may stand so
pub record IsLeft (u : Unsynced) (image : Folder) : Type 0 where
  pub each : (x : List ℕ) → Outside u.renamed x → MayStand u.written x (u.synced x) (image x)

-- the folder as it reads is an image, too
abbrev pub IsImage : Unsynced → Folder → Folder → Type 0
IsImage u reads image = (image ≡ reads) ⊎ IsLeft u image
