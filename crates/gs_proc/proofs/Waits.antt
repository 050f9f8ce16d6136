-- What a wait leaves, by its answer.
use Rattle.std.proofs.Common.{◌≡◌, ◌≤◌, ◌∙◌, ℕ, ap, sym, arith, List, None, Result, Ok, Err, IfOk}
use Rattle.std.specs.Prelude.{OnErr}
use Rattle.gs_types.specs.Counts.{Caused}
use Rattle.gs_types.specs.declared.memory.NoMemory.{NoMemory}
use Rattle.gs_types.specs.declared.job.Job.{Job}
use Rattle.gs_site.specs.declared.link.Event.{Event}
use Rattle.gs_site.specs.declared.link.Event.TheVariants.{Finished, Failed}
use Rattle.gs_site.specs.Jobs.{job_at, without}
use Rattle.gs_site.specs.JobFacts.{job_without}
use Rattle.gs_site.specs.Link.{SameJobs, SetsJob, IsFailure, task_of}
use Rattle.gs_proc.specs.ProcLink.{started_jobs, waited_count, EndedLast}
use Rattle.gs_proc.specs.declared.proc_link.ProcLink.{ProcLink}

pub flies_no_more : (old waited new : List Job) (r : Result Event NoMemory) → waited ≡ old → IfOk r (λ e. new ≡ without (task_of e) waited) → IfOk r (λ e. SetsJob (task_of e) None (λ m. job_at old m) (λ m. job_at new m))
flies_no_more old waited new (Ok e) same without_it = record { each = λ m. ap (λ (js : List Job). job_at js m) (without_it ∙ ap (without (task_of e)) same) ∙ job_without (task_of e) old m }
flies_no_more old waited new (Err e) same without_it = tt

pub all_stay : (old waited new : List Job) (r : Result Event NoMemory) → waited ≡ old → OnErr r (new ≡ waited) → OnErr r (SameJobs (λ m. job_at old m) (λ m. job_at new m))
all_stay old waited new (Ok e) same stay = tt
all_stay old waited new (Err e) same stay = record { each = λ m. ap (λ (js : List Job). job_at js m) (stay ∙ same) }

pub counts_failure : (old new : ℕ) (r : Result Event NoMemory) → old ≤ new → new ≡ waited_count old r → Caused (IsFailure r) old new
counts_failure old new (Ok (Finished n outs)) rise is = record { rise = rise; cause = λ failed. absurd failed }
counts_failure old new (Ok (Failed n)) rise is = record { rise = rise; cause = λ failed. omega (arith, is) }
counts_failure old new (Err e) rise is = record { rise = rise; cause = λ failed. absurd failed }

pub calm_without : (old new : ℕ) (r : Result Event NoMemory) → new ≡ waited_count old r → OnErr r (new ≡ old)
calm_without old new (Ok e) is = tt
calm_without old new (Err e) is = is

-- what ended last, where the jobs in flight are the same before
pub last_since : {R F D P I O E : Type 0} (old waited new : ProcLink R F D P I O E) (r : Result Event NoMemory) → started_jobs waited ≡ started_jobs old → IfOk r (EndedLast waited new) → IfOk r (EndedLast old new)
last_since old waited new (Ok e) same l = record { task = l.task; last = l.last; flew = ap (λ (js : List Job). job_at js (task_of e)) (sym same) ∙ l.flew; well = l.well }
last_since old waited new (Err e) same l = tt
