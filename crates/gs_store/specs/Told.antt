-- Which error comes when, and what the calls do that write.
use Rattle.std.specs.Prelude.{◌≡◌, ℕ, ◌≤◌, List, [], ◌∷◌, ◌++◌, Result, IsErrOf, IfErr, OnOk, Some}
use Rattle.gs_types.specs.Counts.{Caused}
use Rattle.gs_types.specs.declared.note.Version.{Version}
use Rattle.gs_disk.specs.Folder.{DiskState, KeepsOthers}
use Rattle.gs_disk.specs.Moments.{LeavesOnly, Passes, Always}
use Rattle.gs_log.specs.Names.{log_name, mark_name}
use Rattle.gs_log.specs.Holding.{Holds, IsBeforeOrAfter}
use Rattle.gs_entries.specs.declared.entry.Entry.{Entry}
use Rattle.gs_store.specs.Names.{version_name}
use Rattle.gs_store.specs.Spans.{Adds, Added, Stays}
use Rattle.gs_store.specs.State.{StoreState, IsDiskOf, with_entry, no_entries}
use Rattle.gs_store.specs.declared.err.StoreErr.{StoreErr}
use Rattle.gs_store.specs.declared.err.StoreErr.TheVariants.{BadLog, BadRecord, LostVersion, DiskFault, NoMemory}

-- the error is one of the disk or a want of memory
abbrev pub IsOutside : StoreErr → Type 0
IsOutside (BadLog at) = ⊥
IsOutside (BadRecord index) = ⊥
IsOutside (LostVersion version kept found) = ⊥
IsOutside DiskFault = Unit {0}
IsOutside NoMemory = Unit {0}

-- the disk's counts don't fall, and a fault is one of the disk. Want of memory may be the store's
-- own
pub record HasCause {T : Type 0} (old new : DiskState) (result : Result T StoreErr) : Type 0 where
  pub faults : Caused (IsErrOf result DiskFault) old.faults new.faults
  pub refusals : old.refusals ≤ new.refusals

-- and there is no other error than a fault of the disk or a want of memory
pub record FailsOutside {T : Type 0} (old new : DiskState) (result : Result T StoreErr)
    : Type 0 where
  pub cause : HasCause old new result
  pub outside : IfErr result IsOutside

-- the file of a version that no entry names was made of these bytes: whatever each image kept, each
-- image keeps, at every moment
pub record PutsVersion {T : Type 0} (store : StoreState) (v : Version) (bytes : List ℕ)
    (old new : DiskState) (result : Result T StoreErr) : Type 0 where
  pub any_moment : Stays store.entries old new
  pub put : OnOk result (new.folder (version_name v) ≡ Some bytes)
  pub others : KeepsOthers (version_name v ∷ []) old.folder new.folder
  pub disk : IsDiskOf store new

-- a payload was added to a log with this list: what each image has at every moment, and what reads,
-- whatever it answered
pub record Appends {T : Type 0} (list : List (List ℕ)) (payload : List ℕ) (old new : DiskState)
    (result : Result T StoreErr) : Type 0 where
  pub any_moment : Always (IsBeforeOrAfter list payload old.folder) old new
  pub images : Passes (KeepsOthers (log_name ∷ [])) old new
  pub only : OnOk result (LeavesOnly new.folder new)
  pub held : OnOk result (Holds (list ++ payload ∷ []) new.folder)
  pub others : KeepsOthers (log_name ∷ []) old.folder new.folder

-- an entry was added to a store: what each image keeps at every moment, and once the call has
-- answered Ok; and what reads elsewhere, whatever it answered
pub record AddsEntry {T : Type 0} (store : StoreState) (e : Entry) (old new : DiskState)
    (result : Result T StoreErr) : Type 0 where
  pub any_moment : Adds store.entries e old new
  pub after : OnOk result (Added store.entries e old new)
  pub only : OnOk result (LeavesOnly new.folder new)
  pub others : KeepsOthers (log_name ∷ []) old.folder new.folder
  pub disk : OnOk result (IsDiskOf (with_entry store e) new)

-- an empty log was made where there was none
pub record MakesLog {T : Type 0} (old new : DiskState) (result : Result T StoreErr)
    : Type 0 where
  pub any_moment : Stays [] old new
  pub others : KeepsOthers (log_name ∷ mark_name ∷ []) old.folder new.folder
  pub disk : OnOk result (IsDiskOf no_entries new)

-- the first entry was added, and the log made where there was none
pub record BeginsEntry {T : Type 0} (e : Entry) (old new : DiskState) (result : Result T StoreErr)
    : Type 0 where
  pub any_moment : Adds [] e old new
  pub after : OnOk result (Added [] e old new)
  pub only : OnOk result (LeavesOnly new.folder new)
  pub others : KeepsOthers (log_name ∷ mark_name ∷ []) old.folder new.folder
  pub disk : OnOk result (IsDiskOf (with_entry no_entries e) new)
