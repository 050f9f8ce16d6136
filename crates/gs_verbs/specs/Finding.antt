-- The store of a folder: what it is, or why there is none.
use Rattle.std.specs.Prelude.{ℕ, ◌≤◌, Result, Ok, Err}
use Rattle.gs_types.specs.Counts.{Rises}
use Rattle.gs_disk.specs.Folder.{Folder}
use Rattle.gs_store.specs.Loading.{Refuses}
use Rattle.gs_store.specs.declared.err.StoreErr.{StoreErr}
use Rattle.gs_store.specs.declared.err.StoreErr.TheVariants.{BadLog, BadRecord, LostVersion, DiskFault, NoMemory}
use Rattle.gs_verbs.specs.declared.stops.BadStore.{BadStore}
use Rattle.gs_verbs.specs.declared.stops.BadStore.TheVariants.{Log, Record, Lost}
use Rattle.gs_verbs.specs.declared.loading.Unloaded.{Unloaded}
use Rattle.gs_verbs.specs.declared.loading.Unloaded.TheVariants.{Bad, Disk, Memory}

abbrev pub err_of : BadStore → StoreErr
err_of (Log at) = BadLog at
err_of (Record index) = BadRecord index
err_of (Lost version kept found) = LostVersion version kept found

-- the folder has no store: its log is bad, else a record, else a file that the records name
abbrev pub IsBad : Folder → BadStore → Type 0
IsBad folder bad = Refuses folder (err_of bad)

abbrev pub unloaded_as : StoreErr → Unloaded
unloaded_as (BadLog at) = Bad (Log at)
unloaded_as (BadRecord index) = Bad (Record index)
unloaded_as (LostVersion version kept found) = Bad (Lost version kept found)
unloaded_as DiskFault = Disk
unloaded_as NoMemory = Memory

-- what a folder is where loading its store gives this error
abbrev pub RefusesStore : Folder → Unloaded → Type 0
RefusesStore folder (Bad bad) = IsBad folder bad
RefusesStore folder Disk = Unit {0}
RefusesStore folder Memory = Unit {0}

-- a fault is one of the disk
abbrev pub IsCaused : {T : Type 0} → ℕ → ℕ → Result T Unloaded → Type 0
IsCaused old new (Ok x) = Unit {0}
IsCaused old new (Err (Bad bad)) = Unit {0}
IsCaused old new (Err Disk) = Rises old new
IsCaused old new (Err Memory) = Unit {0}

-- the disk's count of faults doesn't fall, and it rose where the error is one of the disk
pub record LoadEnds {T : Type 0} (old new : ℕ) (result : Result T Unloaded) : Type 0 where
  pub rise : old ≤ new
  pub cause : IsCaused old new result
