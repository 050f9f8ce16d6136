-- What is counted of a call, exactly.
use Rattle.std.specs.Prelude.{◌≡◌, ℕ, Result, Ok, Err}
use Rattle.gs_types.specs.Counts.{up}
use Rattle.gs_disk.specs.Folder.{DiskState}
use Rattle.gs_disk.specs.declared.disk.DiskErr.{DiskErr}
use Rattle.gs_disk.specs.declared.disk.DiskErr.TheVariants.{Fault, Memory}

abbrev pub faults_by : DiskErr → ℕ → ℕ
faults_by Fault n = up n
faults_by Memory n = n

abbrev pub refusals_by : DiskErr → ℕ → ℕ
refusals_by Fault n = n
refusals_by Memory n = up n

abbrev pub faults_after : {T : Type 0} → Result T DiskErr → ℕ → ℕ
faults_after (Ok x) n = n
faults_after (Err e) n = faults_by e n

abbrev pub refusals_after : {T : Type 0} → Result T DiskErr → ℕ → ℕ
refusals_after (Ok x) n = n
refusals_after (Err e) n = refusals_by e n

-- an error is counted in its own count alone, and a success in none
pub record Counts {T : Type 0} (old new : DiskState) (result : Result T DiskErr) : Type 0 where
  pub faults : new.faults ≡ faults_after result old.faults
  pub refusals : new.refusals ≡ refusals_after result old.refusals
