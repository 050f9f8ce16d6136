-- What bringing results to the user's files does, and which error comes when.
use Rattle.std.specs.Prelude.{◌≡◌, ◌≢◌, ℕ, List, Some, Result, IsErrOf, OnOk}
use Rattle.gs_types.specs.Counts.{Caused, Rises}
use Rattle.gs_types.specs.declared.note.Version.{Version}
use Rattle.gs_disk.specs.Folder.{Folder, DiskState, KeepsOthers}
use Rattle.gs_disk.specs.Going.{AreAmong}
use Rattle.gs_disk.specs.Moments.{LeavesOnly, EachNow, Passes, Always}
use Rattle.gs_disk.specs.declared.disk.DiskErr.{DiskErr}
use Rattle.gs_disk.specs.declared.disk.DiskErr.TheVariants as disks
use Rattle.gs_entries.specs.declared.entry.Entry.{Entry}
use Rattle.gs_store.specs.Keeps.{Base, Keeps}
use Rattle.gs_store.specs.Versions.{len_of, AllStand, IsFirstLost}
use Rattle.gs_back.specs.Finals.{Final, finals_of, names_of, kept_of, AreSet}
use Rattle.gs_back.specs.declared.err.BackErr.{BackErr}
use Rattle.gs_back.specs.declared.err.BackErr.TheVariants.{Lost, Fault, Memory}

abbrev pub err_of_disk : DiskErr → BackErr
err_of_disk disks.Fault = Fault
err_of_disk disks.Memory = Memory

-- the disk's counts don't fall, and an error other than a lost version is one of the disk
pub record HasCause {T : Type 0} (old new : DiskState) (result : Result T BackErr) : Type 0 where
  pub faults : Caused (IsErrOf result Fault) old.faults new.faults
  pub refusals : Caused (IsErrOf result Memory) old.refusals new.refusals

-- what a version's file is where this error comes at it
abbrev pub RefusesFile : Folder → Version → ℕ → BackErr → Type 0
RefusesFile folder v kept (Lost w len found) = (w ≡ v) × (len ≡ kept)
    × (found ≡ len_of folder v)
    × (found ≢ Some kept)
RefusesFile folder v kept Fault = Unit {0}
RefusesFile folder v kept Memory = Unit {0}

-- what a folder is where this error comes: the first final whose version is lost is named
abbrev pub RefusesFinals : Folder → List Final → BackErr → Type 0
RefusesFinals folder fs (Lost v kept found) = IsFirstLost folder (kept_of fs) v kept found
RefusesFinals folder fs Fault = Unit {0}
RefusesFinals folder fs Memory = Unit {0}

-- the finals of a record were set: what each image kept but for the finals' names, each image keeps
-- at every moment; once the call has answered Ok, each final reads as its version, and so it does
-- in every image; and no other file reads otherwise, whatever it answered
pub record WritesBack {T : Type 0} (es : List Entry) (old new : DiskState)
    (result : Result T BackErr) : Type 0 where
  pub any_moment : (base : Base) → AreAmong (names_of (finals_of es)) base.free
      → EachNow (Keeps base es) old → Always (Keeps base es) old new
  pub set : OnOk result (AreSet (finals_of es) old.folder new.folder)
  pub only : OnOk result (LeavesOnly new.folder new)
  pub others : KeepsOthers (names_of (finals_of es)) old.folder new.folder
  pub images : Passes (KeepsOthers (names_of (finals_of es))) old new

-- the versions of these finals stand, and no count of the disk rose
pub record MeetsNoFault (fs : List Final) (old new : DiskState) : Type 0 where
  pub stand : AllStand old.folder (kept_of fs)
  pub faults : Rises old.faults new.faults → ⊥
  pub refusals : Rises old.refusals new.refusals → ⊥
