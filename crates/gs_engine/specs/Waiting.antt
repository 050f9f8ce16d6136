-- A job in flight that ends, and what its task gave.
use Rattle.std.specs.Prelude.{◌≡◌, ◌≢◌, ℕ, List, ◌∷◌, ◌++◌, true, false, Some, None, IsSome, is_some, Result}
use Rattle.gs_types.specs.Job.{Meaning, Gives}
use Rattle.gs_types.specs.History.{History, finished}
use Rattle.gs_types.specs.declared.job.Job.{Job}
use Rattle.gs_types.specs.declared.note.OutNote.{OutNote}
use Rattle.gs_types.specs.declared.value.Value.{Value}
use Rattle.gs_disk.specs.Folder.{Folder, DiskState}
use Rattle.gs_entries.specs.Order.{stage_of, has_done}
use Rattle.gs_entries.specs.declared.entry.Entry.{Entry}
use Rattle.gs_entries.specs.declared.entry.Entry.TheVariants as made
use Rattle.gs_entries.specs.declared.entry.Stage.TheVariants.{Running}
use Rattle.gs_store.specs.Names.{main_name}
use Rattle.gs_store.specs.State.{StoreState, IsDiskOf, with_entry}
use Rattle.gs_site.specs.Link.{Flying, SetsJob}
use Rattle.gs_queue.specs.Queue.{job_of}
use Rattle.gs_talk.specs.Seq.{Task, IsTask}
use Rattle.gs_history.specs.Setup.{Setup}
use Rattle.gs_history.specs.Good.{IsQuiet}
use Rattle.gs_main.specs.Shown.{talking}
use Rattle.gs_core.specs.Core.{Stands as CoreStands}
use Rattle.gs_core.specs.Talker.{IsAwake}
use Rattle.gs_core.specs.declared.machine.Core.{Core}
use Rattle.gs_life.specs.Origin.{Origin, run_of}
use Rattle.gs_life.specs.Standing.{IsSteady}
use Rattle.gs_life.specs.Stands.{IsRunning}
use Rattle.gs_life.specs.Called.{Stood}
use Rattle.gs_finish.specs.declared.halt.Halt.{Halt}
use Rattle.gs_engine.specs.Joined.{Moment, Before}

-- unless something was lost, no ready task can be started
abbrev pub IsStillNow : Before
IsStillNow c k h = IsQuiet c.setup (h ++ c.noted)

-- ---- what a task gave

-- the core stands for a run in which task n gave these outputs
pub record HasGiven (core : Core) (s : Setup) (n : ℕ) (t : Task) (outs : List Value) : Type 0 where
  pub questions : ℕ
  pub history : History
  pub stands : CoreStands core s questions history
  pub called : IsTask s.run n t
  pub gave : t.outs ≡ Some outs

-- the entry that task n, of some operation, gave what is noted was added
pub record AddsDone (n : ℕ) (notes : List OutNote) (old new : StoreState) : Type 0 where
  pub op : ℕ
  pub is : new ≡ with_entry old (made.Done n op notes)

-- what was done before is done, and so is task n
pub record MarksDone (n : ℕ) (old new : List Entry) : Type 0 where
  pub here : has_done new n ≡ true
  pub others : (m : ℕ) → n ≢ m → has_done new m ≡ has_done old m

-- the contents that the program closed read the same
abbrev pub SameMains : (old new : Folder) → Type 0
SameMains old new = (k : ℕ) → new (main_name k) ≡ old (main_name k)

-- over a disk of a run that goes on: each image stands at every moment, and once the call has
-- answered Ok, the run goes on with the new entries
abbrev pub KeepsGiven : {T : Type 0} → Core → (old new : List Entry) → (n : ℕ) → List Value
    → (a b : DiskState) → Result T Halt → Type 0
KeepsGiven core old new n outs a b result = (o : Origin) (s : Setup) (t : Task)
    → s.run ≡ run_of o s.run.fuel → HasGiven core s n t outs → IsSteady old a
    → IsRunning o a.folder old → Stood o new (λ f. IsRunning o f new) a b result

-- ---- the end of a job

-- what holds of the values where the link has told the end of task n, and the core wasn't told yet
pub record HasEndedAt {D K : Type 0} (n : ℕ) (told : Type 0) (state : D → DiskState)
    (jobs : K → Flying) (at : Moment D K) : Type 0 where
  pub stage : stage_of at.store.entries ≡ Running
  pub disk : told → IsDiskOf at.store (state at.disk)
  pub flew : IsSome (job_of at.core.queue n)
  pub ended : jobs at.link n ≡ None
  pub together : (m : ℕ) → n ≢ m → is_some (job_of at.core.queue m) ≡ is_some (jobs at.link m)
  pub still : has_done at.store.entries n ≡ false
  pub undone : (m : ℕ) → IsSome (jobs at.link m) → has_done at.store.entries m ≡ false
  pub awake : IsAwake at.core.asked (talking at.core.main).next

-- from one link to the next the job of task n finished with these outputs, which are the law's
pub record HasFinished {K : Type 0} (tells : K → History → Type 0) (jobs : K → Flying)
    (law : K → Meaning) (n : ℕ) (outs : List Value) (old new : K) : Type 0 where
  pub job : Job
  pub flew : jobs old n ≡ Some job
  pub flies : SetsJob n None (jobs old) (jobs new)
  pub law_same : law new ≡ law old
  pub told : (past : History) → tells old past → tells new (finished n outs ∷ past)
  pub by_law : (past : History) → tells old past → Gives (law old) job.op job.args outs
