-- What reading a whole file gives.
use Rattle.std.specs.Prelude.{◌≡◌, ℕ, ◌<◌, ◌≤◌, List, length, Option, Some, None, Result, IsErrOf}
use Rattle.gs_types.specs.Counts.{Caused}
use Rattle.gs_disk.specs.Folder.{DiskState}
use Rattle.gs_disk.specs.declared.disk.DiskErr.{DiskErr}
use Rattle.gs_disk.specs.declared.disk.DiskErr.TheVariants.{Fault}
use Rattle.gs_disk.specs.declared.whole.Whole.{Whole}
use Rattle.gs_disk.specs.declared.whole.Whole.TheVariants.{Absent, TooLong, Read}

-- this is the answer at a file that may be so long, with the bytes that were read
abbrev pub IsWhole : Option (List ℕ) → ℕ → List ℕ → Whole → Type 0
IsWhole file limit bytes Absent = file ≡ None
IsWhole file limit bytes (TooLong len) = (long : List ℕ) × (file ≡ Some long) × (len ≡ length long)
    × (limit < len)
IsWhole file limit bytes (Read len) = (file ≡ Some bytes) × (len ≡ length bytes) × (len ≤ limit)

-- the same of any disk, also one that does not tell its folder: only a `Read` changes the bytes
abbrev pub Carries : ℕ → List ℕ → List ℕ → Whole → Type 0
Carries limit old new Absent = new ≡ old
Carries limit old new (TooLong len) = (new ≡ old) × (limit < len)
Carries limit old new (Read len) = (len ≡ length new) × (len ≤ limit)

-- the counts don't fall, and a fault is one of the disk. Want of memory may be the reader's own
pub record HasFault {T : Type 0} (old new : DiskState) (result : Result T DiskErr) : Type 0 where
  pub faults : Caused (IsErrOf result Fault) old.faults new.faults
  pub refusals : old.refusals ≤ new.refusals
