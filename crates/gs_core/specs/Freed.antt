-- Tasks that are listed since they may start.
use Rattle.std.specs.Prelude.{◌≡◌, ℕ, ◌⊎◌, Some, None, IsSome}
use Rattle.gs_types.specs.History.{History}
use Rattle.gs_broker.specs.declared.choice.Ready.{Ready}
use Rattle.gs_queue.specs.Queue.{tasks_of, listed_of, job_of, SameRun, IsTask}
use Rattle.gs_queue.specs.declared.queue.Queue.{Queue}
use Rattle.gs_talk.specs.Seq.{Task, task_at}
use Rattle.gs_talk.specs.Actions.{DependsOn}
use Rattle.gs_history.specs.Setup.{Setup, world_at}
use Rattle.gs_history.specs.Ready.{IsOpen}
use Rattle.gs_tables.specs.Holds.{Holds}
use Rattle.gs_tables.specs.Starts.{AreSmall, IsEntry}
use Rattle.gs_tables.specs.declared.tables.Tables.{Tables}

-- the task is open and not in flight, and it is listed with its entry
pub record IsFreed (t : Tables) (old new : Queue) (m : ℕ) : Type 0 where
  pub numbered : IsTask m old
  pub idle : job_of old m ≡ None
  pub entry : Ready
  pub listed : listed_of new m ≡ Some entry
  pub says : (s : Setup) (k : ℕ) (h : History) (task : Task) → Holds t s k h → AreSmall s
      → task_at (world_at s k).tasks m ≡ Some task → IsOpen s h m task × IsEntry entry m task

-- each task is listed as before, or such a one
pub record ListsFreed (t : Tables) (old new : Queue) : Type 0 where
  pub tasks : tasks_of new ≡ tasks_of old
  pub run : SameRun old new
  pub listed : (m : ℕ) → (listed_of new m ≡ listed_of old m) ⊎ IsFreed t old new m

-- the task is listed if it is open and not in flight
abbrev pub IsListedIfOpen : Tables → (old new : Queue) → ℕ → Type 0
IsListedIfOpen t old new m = (s : Setup) (k : ℕ) (h : History) (task : Task) → Holds t s k h
    → task_at (world_at s k).tasks m ≡ Some task → IsOpen s h m task → IsTask m old
    → job_of old m ≡ None → IsSome (listed_of new m)

-- so is each task that truly depends on task n
abbrev pub ListsFollowers : Tables → (n : ℕ) → (old new : Queue) → Type 0
ListsFollowers t n old new = (s : Setup) (k : ℕ) (h : History) (m : ℕ) (task : Task)
    → Holds t s k h → task_at (world_at s k).tasks m ≡ Some task → DependsOn s.run m n
    → IsOpen s h m task → IsTask m old → job_of old m ≡ None → IsSome (listed_of new m)
