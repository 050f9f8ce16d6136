-- The jobs that child programs do.
use Rattle.std.specs.Prelude.{◌≡◌, ℕ, pos, Some, None, List, [], ◌∷◌, map}
use Rattle.std.specs.Process.{child_status, exit_code}
use Rattle.std.specs.declared.process.Child.{Child}
use Rattle.std.specs.declared.process.ExitStatus.{ExitStatus}
use Rattle.gs_types.specs.declared.job.Job.{Job}
use Rattle.gs_site.specs.Jobs.{job_at}
use Rattle.gs_proc.specs.declared.task.Task.{Task}

-- tasks in flight, in the order of their starts, and the room for more
pub record Crew (C : Type 0) : Type 0 where
  pub list : List (Task C)
  pub room : ℕ

abbrev pub calls : {C : Type 0} → List (Task C) → List Job
calls ts = map (λ t. t.call) ts

-- no two jobs are of one task
abbrev pub AreApart : List Job → Type 0
AreApart [] = Unit {0}
AreApart (job ∷ jobs) = (job_at jobs job.n ≡ None) × AreApart jobs

-- a child was asked, and has ended with status 0
abbrev pub EndedWell : {P I O E : Type 0} → Child P I O E → Type 0
EndedWell child = (status : ExitStatus) × (child_status child ≡ Some status)
    × (exit_code status ≡ Some (pos 0))
