-- A core, a store, a disk and a link at one moment of a run.
use Rattle.std.specs.Prelude.{◌≡◌, ℕ, ◌+◌, ◌≤◌, List, ◌++◌, length, Some, IsSome, true, Result, Ok, Err}
use Rattle.gs_types.specs.Job.{Meaning}
use Rattle.gs_types.specs.History.{History, outs_in}
use Rattle.gs_types.specs.declared.job.Job.{Job}
use Rattle.gs_disk.specs.Folder.{Folder, DiskState}
use Rattle.gs_disk.specs.Moments.{Always}
use Rattle.gs_entries.specs.Order.{has_done}
use Rattle.gs_store.specs.Names.{main_name}
use Rattle.gs_store.specs.State.{StoreState}
use Rattle.gs_site.specs.Link.{Flying}
use Rattle.gs_talk.specs.Seq.{Task, IsTask}
use Rattle.gs_talk_laws.specs.Numbers.{at_number}
use Rattle.gs_history.specs.Setup.{Setup, world_at}
use Rattle.gs_history.specs.Good.{Good, GoesOn}
use Rattle.gs_history.specs.Ready.{IsJob}
use Rattle.gs_tables.specs.Table.{mains_in}
use Rattle.gs_core.specs.Core.{Stands as CoreStands}
use Rattle.gs_core.specs.Stages.{ahead}
use Rattle.gs_core.specs.declared.machine.Core.{Core}
use Rattle.gs_life.specs.Origin.{Origin, run_of}
use Rattle.gs_life.specs.Standing.{IsSteady}
use Rattle.gs_life.specs.Stands.{IsRunning, Stands}
use Rattle.gs_finish.specs.Finishing.{IsNotLost}
use Rattle.gs_finish.specs.declared.halt.Halt.{Halt}

-- a call: what the run is of, what the core is given, the events that the entries are as the call
-- begins, and the link's history before it
pub record Course : Type 0 where
  pub origin : Origin
  pub setup : Setup
  pub run_is : setup.run ≡ run_of origin setup.run.fuel
  pub noted : History
  pub past : History

-- what there is at a moment
pub record Moment (D K : Type 0) : Type 0 where
  pub core : Core
  pub store : StoreState
  pub disk : D
  pub link : K

-- a job in flight is that of its task
pub record IsOwnJob (s : Setup) (n : ℕ) (job : Job) : Type 0 where
  pub worker : ℕ
  pub task : Task
  pub called : IsTask s.run n task
  pub is : IsJob s n worker task job

-- the first of the contents that the program closes stand in their files
abbrev pub MainsStand : Setup → (count : ℕ) → Folder → Type 0
MainsStand s count folder = (k n : ℕ) (bytes : List ℕ) → n ≤ count
    → at_number (world_at s k).closed n ≡ Some bytes → folder (main_name n) ≡ Some bytes

-- the core stands for the first k questions and for the history, which the link tells; the jobs in
-- flight are those of their tasks; the disk stands for the run, and the entries are of the tasks
-- that are done; and the contents stand that the program closed
pub record Joined {D K : Type 0} (state : D → DiskState) (tells : K → History → Type 0)
    (jobs : K → Flying) (law : K → Meaning) (c : Course) (at : Moment D K) (k : ℕ) (h : History)
    : Type 0 where
  pub stands : CoreStands at.core c.setup k (h ++ c.noted)
  pub told : tells at.link (h ++ c.past)
  pub goes_on : GoesOn (h ++ c.noted)
  pub law_is : law at.link ≡ c.origin.law
  pub own : (n : ℕ) (job : Job) → jobs at.link n ≡ Some job → IsOwnJob c.setup n job
  pub steady : IsSteady at.store.entries (state at.disk)
  pub running : IsRunning c.origin (state at.disk).folder at.store.entries
  pub recorded : (n : ℕ) → IsSome (outs_in (h ++ c.noted) n)
      → has_done at.store.entries n ≡ true
  pub noted : (n : ℕ) → has_done at.store.entries n ≡ true
      → IsSome (outs_in (h ++ c.noted) n)
  pub kept : MainsStand c.setup (length (mains_in at.core.tables) + ahead at.core.stage)
      (state at.disk).folder

-- where a call that answers Ok comes to: a later moment, of which this holds
pub record Reached {D K : Type 0} (state : D → DiskState) (tells : K → History → Type 0)
    (jobs : K → Flying) (law : K → Meaning) (c : Course) (at : Moment D K)
    (Q : ℕ → History → Type 0) : Type 0 where
  pub questions : ℕ
  pub history : History
  pub joined : Joined state tells jobs law c at questions history
  pub holds : Q questions history

-- what is left of a call that stops: a history that is as it should be
pub record Stopped {K : Type 0} (tells : K → History → Type 0) (c : Course) (link : K) : Type 0 where
  pub history : History
  pub told : tells link (history ++ c.past)
  pub good : Good c.setup (history ++ c.noted)
  pub goes_on : GoesOn (history ++ c.noted)

-- how a call ends: where it stops, that isn't since a version's file lacks its length
abbrev pub Ends : {D K T : Type 0} → (D → DiskState) → (K → History → Type 0) → (K → Flying)
    → (K → Meaning) → Course → Moment D K → (T → ℕ → History → Type 0) → Result T Halt → Type 0
Ends state tells jobs law c at Q (Ok x) = Reached state tells jobs law c at (Q x)
Ends state tells jobs law c at Q (Err e) = Stopped tells c at.link × IsNotLost e

-- what is known before a call, of a course, a number of questions and a history
abbrev pub Before : Type 1
Before = Course → ℕ → History → Type 0

-- a call that begins where the parts are joined: each image stands at every moment, and it comes to
-- where they are joined again, or stops
abbrev pub Goes : {D K T : Type 0} → (D → DiskState) → (K → History → Type 0) → (K → Flying)
    → (K → Meaning) → Moment D K → Moment D K → Before → (T → Before) → Result T Halt → Type 0
Goes state tells jobs law a b P Q result = (c : Course) (k : ℕ) (h : History)
    → Joined state tells jobs law c a k h → P c k h
    → Always (Stands c.origin) (state a.disk) (state b.disk)
    × Ends state tells jobs law c b (λ x. Q x c) result
