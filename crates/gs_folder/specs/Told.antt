-- A disk of which only the counts are told.
use Rattle.std.specs.Prelude.{ℕ, None, Err}
use Rattle.gs_disk.specs.Folder.{DiskState, HasCause}
use Rattle.gs_disk.specs.Counts.{Counts}
use Rattle.gs_disk.specs.declared.disk.DiskErr.{DiskErr}

pub record Told : Type 0 where
  pub faults : ℕ
  pub refusals : ℕ

abbrev pub as_disk : Told → DiskState
as_disk t = record {
  folder = λ name. None;
  moment = 0;
  left_since = λ since image. ⊥;
  faults = t.faults;
  refusals = t.refusals;
}

-- the error was counted, and only it
pub record IsNoted (old new : Told) (error : DiskErr) : Type 0 where
  pub cause : HasCause {T = ℕ} (as_disk old) (as_disk new) (Err error)
  pub counts : Counts {T = ℕ} (as_disk old) (as_disk new) (Err error)
