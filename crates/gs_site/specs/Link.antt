-- What the calls of a link do.
use Rattle.std.specs.Prelude.{◌≡◌, ◌⊎◌, ℕ, ◌==◌, ◌∷◌, Option, Some, None, IsSome, Result, Ok, Err, IfOk, OnOk, OnErr, IsErrOf, ⊤, if◌then◌else◌}
use Rattle.gs_types.specs.Job.{Meaning, Gives, Fit}
use Rattle.gs_types.specs.Counts.{Caused}
use Rattle.gs_types.specs.History.{History, started, refused, finished, failed, abandoned}
use Rattle.gs_types.specs.declared.job.Job.{Job}
use Rattle.gs_types.specs.declared.memory.NoMemory.{NoMemory}
use Rattle.gs_site.specs.declared.link.Event.{Event}
use Rattle.gs_site.specs.declared.link.Event.TheVariants.{Finished, Failed}
use Rattle.gs_site.specs.declared.link.StartErr.{StartErr}
use Rattle.gs_site.specs.declared.link.StartErr.TheVariants as start_err

-- the jobs in flight, by their tasks
abbrev pub Flying : Type 0
Flying = ℕ → Option Job

pub record IsIdle (jobs : Flying) : Type 0 where
  pub none : (n : ℕ) → jobs n ≡ None

-- a task is in flight
abbrev pub IsBusy : Flying → Type 0
IsBusy jobs = (n : ℕ) × IsSome (jobs n)

-- what is in flight stays
pub record SameJobs (old new : Flying) : Type 0 where
  pub each : (n : ℕ) → new n ≡ old n

-- what is in flight at one task was set, and stays at each other
pub record SetsJob (n : ℕ) (job : Option Job) (old new : Flying) : Type 0 where
  pub each : (m : ℕ) → new m ≡ (if n == m then job else old m)

-- the history after a start, by its answer
abbrev pub after_start : Job → Result Unit StartErr → History → History
after_start job (Ok done) past = started job.n job.worker job ∷ past
after_start job (Err start_err.Failed) past = refused job.n job.worker ∷ past
after_start job (Err start_err.NoMemory) past = past

abbrev pub task_of : Event → ℕ
task_of (Finished n outs) = n
task_of (Failed n) = n

-- the history after a wait, by its answer
abbrev pub after_wait : Result Event NoMemory → History → History
after_wait (Ok (Finished n outs)) past = finished n outs ∷ past
after_wait (Ok (Failed n)) past = failed n ∷ past
after_wait (Err e) past = past

-- a wait told that a task failed
abbrev pub IsFailure : Result Event NoMemory → Type 0
IsFailure (Ok (Finished n outs)) = ⊥
IsFailure (Ok (Failed n)) = Unit {0}
IsFailure (Err e) = ⊥

-- one fitting output for each place of an output, where the job finished
abbrev pub FitsJob : Job → Event → Type 0
FitsJob job (Finished n outs) = Fit job.args outs
FitsJob job (Failed n) = ⊤

-- the outputs are those of the law
abbrev pub IsByLaw : Meaning → Job → Event → Type 0
IsByLaw law job (Finished n outs) = Gives law job.op job.args outs
IsByLaw law job (Failed n) = ⊤

-- what a start did, by its answer: the job is in flight; or it was refused, for which the count
-- rose; or memory was wanting, and nothing changed
pub record HasStarted {K : Type 0} (jobs : K → Flying) (faults : K → ℕ) (old new : K) (job : Job)
    (result : Result Unit StartErr) : Type 0 where
  pub flies : OnOk result (SetsJob job.n (Some job) (jobs old) (jobs new))
  pub stays : OnErr result (SameJobs (jobs old) (jobs new))
  pub count : Caused (IsErrOf result start_err.Failed) (faults old) (faults new)
  pub calm : IsErrOf result start_err.NoMemory → faults new ≡ faults old

-- the history grew by a start
abbrev pub TellsStart : {K : Type 0} → (K → History → Type 0) → K → K → Job → Result Unit StartErr
    → Type 0
TellsStart tells old new job result = (past : History) → tells old past
    → tells new (after_start job result past)

-- what a wait did, by its answer: a job that was in flight is so no more, and its outputs fit, or
-- it failed, for which the count rose; or memory was wanting, and nothing changed
pub record HasEnded {K : Type 0} (jobs : K → Flying) (faults : K → ℕ) (old new : K)
    (result : Result Event NoMemory) : Type 0 where
  pub ended : IfOk result (λ e. (job : Job) × (jobs old (task_of e) ≡ Some job) × FitsJob job e)
  pub flies : IfOk result (λ e. SetsJob (task_of e) None (jobs old) (jobs new))
  pub stays : OnErr result (SameJobs (jobs old) (jobs new))
  pub count : Caused (IsFailure result) (faults old) (faults new)
  pub calm : OnErr result (faults new ≡ faults old)

-- the history grew by the end of a task
abbrev pub TellsEnd : {K : Type 0} → (K → History → Type 0) → K → K → Result Event NoMemory → Type 0
TellsEnd tells old new result = (past : History) → tells old past
    → tells new (after_wait result past)

-- where the history is told, a task gave what the law says of its job
abbrev pub EndsByLaw : {K L : Type 0} → (K → History → Type 0) → (K → Flying) → (L → Meaning)
    → (K → L) → K → Result Event NoMemory → Type 0
EndsByLaw tells jobs meaning law old result =
    (past : History) → tells old past
    → IfOk result (λ e. (job : Job) → jobs old (task_of e) ≡ Some job
    → IsByLaw (meaning (law old)) job e)

-- a job was in flight, and the history got the end of all; or none was, and history and count stay
abbrev pub Abandons : {K : Type 0} → (K → History → Type 0) → (K → Flying) → (K → ℕ) → K → K
    → Type 0
Abandons tells jobs faults old new =
    (IsBusy (jobs old) × ((past : History) → tells old past → tells new (abandoned ∷ past)))
    ⊎ (IsIdle (jobs old) × ((past : History) → tells old past → tells new past)
    × (faults new ≡ faults old))
