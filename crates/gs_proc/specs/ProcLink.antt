-- What a link of child programs holds.
use Rattle.std.specs.Prelude.{◌≡◌, ℕ, List, Some, Result, Ok, Err}
use Rattle.std.specs.declared.process.Child.{Child}
use Rattle.gs_types.specs.Counts.{up}
use Rattle.gs_types.specs.History.{History}
use Rattle.gs_types.specs.declared.law.NoLaw.{NoLaw}
use Rattle.gs_types.specs.declared.memory.NoMemory.{NoMemory}
use Rattle.gs_types.specs.declared.job.Job.{Job}
use Rattle.gs_site.specs.declared.link.Event.{Event}
use Rattle.gs_site.specs.declared.link.Event.TheVariants.{Finished, Failed}
use Rattle.gs_site.specs.declared.link.StartErr.{StartErr}
use Rattle.gs_site.specs.declared.link.StartErr.TheVariants as start_err
use Rattle.gs_site.specs.Jobs.{job_at}
use Rattle.gs_site.specs.Link.{Flying, task_of}
use Rattle.gs_site.specs.Memory.{counted}
use Rattle.gs_proc.specs.declared.task.Task.{Task}
use Rattle.gs_proc.specs.declared.proc_link.ProcLink.{ProcLink}
use Rattle.gs_proc.specs.Tasks.{calls, EndedWell}

abbrev pub law_of : {R F D P I O E : Type 0} → ProcLink R F D P I O E → NoLaw
law_of l = l.law

-- it tells no history
abbrev pub tells_of : {R F D P I O E : Type 0} → ProcLink R F D P I O E → History → Type 0
tells_of l h = ⊥

-- the jobs in flight, in the order of their starts
abbrev pub started_jobs : {R F D P I O E : Type 0} → ProcLink R F D P I O E → List Job
started_jobs l = calls l.tasks.list

abbrev pub jobs_of : {R F D P I O E : Type 0} → ProcLink R F D P I O E → Flying
jobs_of l n = job_at (calls l.tasks.list) n

abbrev pub faults_of : {R F D P I O E : Type 0} → ProcLink R F D P I O E → ℕ
faults_of l = l.faults

-- the count of faults after a start, by its answer
abbrev pub started_count : ℕ → Result Unit StartErr → ℕ
started_count faults (Ok done) = faults
started_count faults (Err start_err.Failed) = up faults
started_count faults (Err start_err.NoMemory) = faults

-- the count of faults after a wait, by its answer
abbrev pub waited_count : ℕ → Result Event NoMemory → ℕ
waited_count faults (Ok e) = counted faults e
waited_count faults (Err e) = faults

abbrev pub IsFinished : Event → Type 0
IsFinished (Finished n outs) = Unit {0}
IsFinished (Failed n) = ⊥

-- the task that ended last was in flight as its job, and where it finished, its child was asked,
-- and has ended with status 0
pub record EndedLast {R F D P I O E : Type 0} (old new : ProcLink R F D P I O E) (e : Event) : Type
    0 where
  pub task : Task (Child P I O E)
  pub last : new.last ≡ Some task
  pub flew : jobs_of old (task_of e) ≡ Some task.call
  pub well : IsFinished e → EndedWell task.child
