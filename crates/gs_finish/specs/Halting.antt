-- Why the engine stops early, and what that is due to.
use Rattle.std.specs.Prelude.{◌≡◌, ◌≢◌, ℕ, Option, Some, Result, IsErrOf}
use Rattle.std.specs.Bool.{⊤}
use Rattle.gs_types.specs.Counts.{Caused}
use Rattle.gs_types.specs.declared.note.Version.{Version}
use Rattle.gs_disk.specs.Folder.{Folder, DiskState}
use Rattle.gs_disk.specs.declared.disk.DiskErr.{DiskErr}
use Rattle.gs_disk.specs.declared.disk.DiskErr.TheVariants as disks
use Rattle.gs_store.specs.Versions.{len_of}
use Rattle.gs_store.specs.declared.err.StoreErr.{StoreErr}
use Rattle.gs_store.specs.declared.err.StoreErr.TheVariants as stores
use Rattle.gs_finish.specs.declared.halt.Halt.{Halt}
use Rattle.gs_finish.specs.declared.halt.Halt.TheVariants.{Disk, NoMemory, Lost}

abbrev pub halt_of_disk : DiskErr → Halt
halt_of_disk disks.Fault = Disk
halt_of_disk disks.Memory = NoMemory

-- a store that is in use is read no more
abbrev pub halt_of : StoreErr → Halt
halt_of (stores.BadLog at) = NoMemory
halt_of (stores.BadRecord index) = NoMemory
halt_of (stores.LostVersion v kept found) = Lost v kept found
halt_of stores.DiskFault = Disk
halt_of stores.NoMemory = NoMemory

-- the disk's count of faults doesn't fall, and a fault is one of the disk
abbrev pub HaltCaused : {T : Type 0} → (old new : DiskState) → Result T Halt → Type 0
HaltCaused old new result = Caused (IsErrOf result Disk) old.faults new.faults

-- the version's file lacks the length that was kept
abbrev pub Lacks : Folder → Version → Option ℕ → Halt → Type 0
Lacks folder v kept (Lost w len found) =
    (w ≡ v) × (kept ≡ Some len) × (found ≡ len_of folder v) × (found ≢ Some len)
Lacks folder v kept Disk = ⊤
Lacks folder v kept NoMemory = ⊤
