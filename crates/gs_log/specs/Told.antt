-- Which error comes when.
use Rattle.std.specs.Prelude.{◌≡◌, ℕ, ◌≤◌, List, None, IsSome, Result, IsErrOf}
use Rattle.gs_types.specs.Counts.{Caused}
use Rattle.gs_disk.specs.Folder.{Folder, DiskState}
use Rattle.gs_disk.specs.declared.disk.DiskErr.{DiskErr}
use Rattle.gs_disk.specs.declared.disk.DiskErr.TheVariants.{Fault, Memory}
use Rattle.gs_log.specs.Names.{log_name, mark_name}
use Rattle.gs_log.specs.Grammar.{IsNoLog, BreaksAt}
use Rattle.gs_log.specs.declared.err.LogErr.{LogErr}
use Rattle.gs_log.specs.declared.err.LogErr.TheVariants.{NoMark, BadLog, DiskFault, NoMemory}

abbrev pub told_by : DiskErr → LogErr
told_by Fault = DiskFault
told_by Memory = NoMemory

-- what a folder is where reading the log from it gives this error
abbrev pub Refuses : Folder → LogErr → Type 0
Refuses folder NoMark = folder mark_name ≡ None
Refuses folder (BadLog at) = IsSome (folder mark_name) × IsNoLog (folder log_name) at
Refuses folder DiskFault = Unit {0}
Refuses folder NoMemory = Unit {0}

-- the error is one of the disk or a want of memory
abbrev pub IsOutside : LogErr → Type 0
IsOutside NoMark = ⊥
IsOutside (BadLog at) = ⊥
IsOutside DiskFault = Unit {0}
IsOutside NoMemory = Unit {0}

-- the disk's counts don't fall, and a fault is one of the disk. Want of memory may be the log's own
pub record HasCause {T : Type 0} (old new : DiskState) (result : Result T LogErr) : Type 0 where
  pub faults : Caused (IsErrOf result DiskFault) old.faults new.faults
  pub refusals : old.refusals ≤ new.refusals

-- what bytes are where reading them gives this error
abbrev pub RefusesBytes : List ℕ → LogErr → Type 0
RefusesBytes bytes NoMark = ⊥
RefusesBytes bytes (BadLog at) = BreaksAt bytes at
RefusesBytes bytes DiskFault = ⊥
RefusesBytes bytes NoMemory = Unit {0}
