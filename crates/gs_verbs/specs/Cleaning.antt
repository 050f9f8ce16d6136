-- What a call of `clean` did.
use Rattle.std.specs.Prelude.{◌≡◌, ℕ, ◌≤◌, Result, Ok, Err}
use Rattle.gs_types.specs.Counts.{Rises}
use Rattle.gs_disk.specs.Folder.{Folder, DiskState, Same}
use Rattle.gs_disk.specs.Moments.{Passes}
use Rattle.gs_disk.specs.declared.disk.DiskErr.{DiskErr}
use Rattle.gs_disk.specs.declared.disk.DiskErr.TheVariants as disks
use Rattle.gs_back.specs.Clean.{Cleans}
use Rattle.gs_entries.specs.Order.{stage_of}
use Rattle.gs_entries.specs.declared.entry.Stage.TheVariants as stages
use Rattle.gs_store.specs.State.{StoreState}
use Rattle.gs_store.specs.Loading.{IsStoreOf}
use Rattle.gs_verbs.specs.declared.stops.CleanStop.{CleanStop}
use Rattle.gs_verbs.specs.declared.stops.CleanStop.TheVariants.{Gated, Disk, Memory}

abbrev pub stop_of_disk : DiskErr → CleanStop
stop_of_disk disks.Fault = Disk
stop_of_disk disks.Memory = Memory

-- the folder has a store, whose results may not be in the user's files yet
pub record HasGated (folder : Folder) : Type 0 where
  pub store : StoreState
  pub found : IsStoreOf store folder
  pub stage : stage_of store.entries ≡ stages.Gated

-- what each answer says of the disk's count of faults
abbrev pub CleanCause : (old new : ℕ) → Result Unit CleanStop → Type 0
CleanCause old new (Ok done) = Unit {0}
CleanCause old new (Err Gated) = Unit {0}
CleanCause old new (Err Disk) = Rises old new
CleanCause old new (Err Memory) = Unit {0}

pub record MayEnds (old new : ℕ) (answer : Result Unit CleanStop) : Type 0 where
  pub rise : old ≤ new
  pub cause : CleanCause old new answer

-- whether the folder has a store that is gated
abbrev pub MayTold : Folder → Result Unit CleanStop → Type 0
MayTold folder (Ok done) = HasGated folder → ⊥
MayTold folder (Err Gated) = HasGated folder
MayTold folder (Err Disk) = Unit {0}
MayTold folder (Err Memory) = Unit {0}

-- the store was removed, and nothing is said of whether it might be
pub record Removed (told : Type 0) (old new : DiskState) (answer : Result Unit CleanStop)
    : Type 0 where
  pub cause : CleanCause old.faults new.faults answer
  pub ungated : answer ≡ Err Gated → ⊥
  pub cleans : told → Cleans old new answer

-- nothing was written
pub record Untouched (old new : DiskState) : Type 0 where
  pub same : new.folder ≡ old.folder
  pub images : Passes Same old new

-- where the store is gated, exactly there nothing is done for it
abbrev pub CleanTold : DiskState → DiskState → Result Unit CleanStop → Type 0
CleanTold old new (Ok done) = HasGated old.folder → ⊥
CleanTold old new (Err Gated) = HasGated old.folder × Untouched old new
CleanTold old new (Err Disk) = Unit {0}
CleanTold old new (Err Memory) = Unit {0}

-- what a call did on a disk that tells its folder where `told` holds: what `Cleans` says, of every
-- moment of the call, and no fault but the disk's
pub record RanClean (told : Type 0) (old new : DiskState) (answer : Result Unit CleanStop)
    : Type 0 where
  pub cause : CleanCause old.faults new.faults answer
  pub judged : told → CleanTold old new answer
  pub cleans : told → Cleans old new answer
