-- What removing a record does.
use Rattle.std.specs.Prelude.{◌≡◌, ◌⊎◌, ℕ, List, [], ◌∷◌, None, Result, OnOk, is_some}
use Rattle.gs_disk.specs.Folder.{Folder, DiskState, Has}
use Rattle.gs_disk.specs.Moments.{LeavesOnly, EachNow, Passes, Always}
use Rattle.gs_disk.specs.Name.{IsStore}
use Rattle.gs_log.specs.Names.{mark_name}
use Rattle.gs_entries.specs.declared.entry.Entry.{Entry}
use Rattle.gs_store.specs.Keeps.{Base, Keeps}
use Rattle.gs_store.specs.Spans.{TouchesOnly}

-- all files but those of the store are the same
pub record KeepsUnstored (old new : Folder) : Type 0 where
  pub each : (x : List ℕ) → (IsStore x → ⊥) → new x ≡ old x

-- no file of the store is there
abbrev pub HasNoStore : Folder → Type 0
HasNoStore folder = (x : List ℕ) → IsStore x → folder x ≡ None

abbrev pub IsUnmarked : Folder → Type 0
IsUnmarked image = image mark_name ≡ None

-- each image has the mark exactly where the folder has it
abbrev pub AgreesOnMark : DiskState → Type 0
AgreesOnMark s = EachNow (λ image. is_some (image mark_name) ≡ is_some (s.folder mark_name)) s

-- these entries, and what they name, or no mark
abbrev pub KeepsOrUnmarked : Base → List Entry → Folder → Type 0
KeepsOrUnmarked base es image = Keeps base es image ⊎ IsUnmarked image

-- a record was removed: what each image kept, each image keeps at every moment, or it has no mark;
-- and files that aren't the store's stay as they are
pub record Cleans {T E : Type 0} (old new : DiskState) (result : Result T E) : Type 0 where
  pub any_moment : AgreesOnMark old → (base : Base) (es : List Entry)
      → EachNow (Keeps base es) old
      → Always (KeepsOrUnmarked base es) old new
  pub gone : OnOk result (HasNoStore new.folder)
  pub only : OnOk result (LeavesOnly new.folder new)
  pub others : KeepsUnstored old.folder new.folder
  pub images : Passes KeepsUnstored old new

-- the mark was removed, and no other file
pub record Unmarks {T E : Type 0} (old new : DiskState) (result : Result T E) : Type 0 where
  pub any_moment : AgreesOnMark old → (base : Base) (es : List Entry)
      → EachNow (Keeps base es) old
      → Always (KeepsOrUnmarked base es) old new
  pub gone : OnOk result (new.folder mark_name ≡ None)
  pub only : OnOk result (LeavesOnly new.folder new)
  pub touches : TouchesOnly (mark_name ∷ []) old new

-- of these files those of the store were removed, and no other file
pub record RemovesStored {T E : Type 0} (names : List (List ℕ)) (old new : DiskState)
    (result : Result T E) : Type 0 where
  pub gone : OnOk result ((x : List ℕ) → IsStore x → Has x names → new.folder x ≡ None)
  pub touches : TouchesOnly names old new
  pub others : KeepsUnstored old.folder new.folder
  pub images : Passes KeepsUnstored old new
