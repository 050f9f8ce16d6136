-- Failures that the law of built-in operations makes.
use Rattle.std.specs.Prelude.{◌≡◌, ℕ, ◌==◌, List, [], ◌∷◌, Option, Some, None, if◌then◌else◌}
use Rattle.gs_types.specs.Counts.{up}
use Rattle.gs_types.specs.Job.{Gives}
use Rattle.gs_types.specs.History.{History, noted, started, refused, finished, failed, abandoned}
use Rattle.gs_types.specs.declared.value.Value.{Value}
use Rattle.gs_types.specs.declared.job.Job.{Job}
use Rattle.gs_site.specs.Jobs.{job_at}
use Rattle.gs_site.specs.Memory.{started_jobs, faults_of}
use Rattle.gs_site.specs.declared.memory.MemLink.{MemLink}
use Rattle.gs_filters.specs.Filters.{filters}
use Rattle.gs_filters.specs.declared.filters.FilterLaw.{FilterLaw}

-- the law gives a job no outputs that fit its places
abbrev pub GivesNone : Job → Type 0
GivesNone job = (outs : List Value) → Gives filters job.op job.args outs → ⊥

-- the job of a task that is in flight
abbrev pub job_in : History → ℕ → Option Job
job_in [] n = None
job_in (noted m outs ∷ h) n = job_in h n
job_in (started m worker job ∷ h) n = if m == n then Some job else job_in h n
job_in (refused m worker ∷ h) n = job_in h n
job_in (finished m outs ∷ h) n = if m == n then None else job_in h n
job_in (failed m ∷ h) n = if m == n then None else job_in h n
job_in (abandoned ∷ h) n = None

-- no start was refused, and each failure was that of a job to which the law gives none
abbrev pub IsLawful : History → Type 0
IsLawful [] = Unit {0}
IsLawful (noted n outs ∷ h) = IsLawful h
IsLawful (started n worker job ∷ h) = IsLawful h
IsLawful (refused n worker ∷ h) = ⊥
IsLawful (finished n outs ∷ h) = IsLawful h
IsLawful (failed n ∷ h) = ((job : Job) → job_in h n ≡ Some job → GivesNone job) × IsLawful h
IsLawful (abandoned ∷ h) = IsLawful h

-- the failures and the refused starts, as they are counted
abbrev pub failures_in : History → ℕ
failures_in [] = 0
failures_in (noted n outs ∷ h) = failures_in h
failures_in (started n worker job ∷ h) = failures_in h
failures_in (refused n worker ∷ h) = up (failures_in h)
failures_in (finished n outs ∷ h) = failures_in h
failures_in (failed n ∷ h) = up (failures_in h)
failures_in (abandoned ∷ h) = failures_in h

-- the jobs in flight of a link in memory are those of its history, which is lawful, and its count is
-- that of its failures
pub record IsTogether (l : MemLink FilterLaw) : Type 0 where
  pub flying : (n : ℕ) → job_at (started_jobs l) n ≡ job_in l.desk.told n
  pub lawful : IsLawful l.desk.told
  pub count : faults_of l ≡ failures_in l.desk.told
