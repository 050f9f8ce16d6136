-- What a queue of tasks stands for.
use Rattle.std.specs.Prelude.{◌≡◌, ℕ, ◌+◌, ◌<◌, ◌≤◌, ◌==◌, min, Bool, true, Some, None, IsSome, if◌then◌else◌}
use Rattle.gs_types.specs.History.{History, worker_in, busy, task_failures, worker_failures}
use Rattle.gs_broker.specs.Broker.{slots_in, takes_in, tries_in, job_in, busy_in, failures_in, lapses_in}
use Rattle.gs_broker.specs.Counts.{is_on, most}
use Rattle.gs_broker.specs.declared.broker.Broker.{Broker}
use Rattle.gs_broker.specs.declared.choice.Ready.{Ready}
use Rattle.gs_queue.specs.Queue.{listed_of, slots_of, takes_of, tries_of, job_of, busy_of, failures_of, lapses_of, EndsTask}
use Rattle.gs_queue.specs.declared.queue.Queue.{Queue}
use Rattle.gs_talk.specs.Seq.{Task}
use Rattle.gs_history.specs.Setup.{Setup, count_at}
use Rattle.gs_history.specs.Ready.{IsReady, input_bytes}

-- ---- at the beginning

-- nothing was started, and nothing has failed
pub record IsUnused (b : Broker) : Type 0 where
  pub jobs : (n : ℕ) → job_in b n ≡ None
  pub loads : (w : ℕ) → busy_in b w ≡ 0
  pub failures : (n : ℕ) → failures_in b n ≡ 0
  pub lapses : (w : ℕ) → lapses_in b w ≡ 0

-- the broker is unused, and has the setup's workers and tries, which a counter can count
pub record IsBrokerOf (s : Setup) (b : Broker) : Type 0 where
  pub unused : IsUnused b
  pub slots : (w : ℕ) → slots_in b w ≡ s.slots w
  pub takes : (w op : ℕ) → takes_in b w op ≡ s.takes w op
  pub tries : tries_in b ≡ s.tries
  pub some_tries : 0 < s.tries
  pub few_tries : s.tries ≤ most

-- ---- the queue and the history

-- the queue has the setup's workers and tries; it has the jobs in flight after the history, and has
-- counted its failures, as far as a counter goes: of each task, and of each worker that takes an
-- operation
pub record Works (q : Queue) (s : Setup) (h : History) : Type 0 where
  pub slots : (w : ℕ) → slots_of q w ≡ s.slots w
  pub takes : (w op : ℕ) → takes_of q w op ≡ s.takes w op
  pub tries : tries_of q ≡ s.tries
  pub some_tries : 0 < s.tries
  pub few_tries : s.tries ≤ most
  pub jobs : (n : ℕ) → job_of q n ≡ worker_in h n
  pub loads : (w : ℕ) → busy_of q w ≡ busy h w
  pub failures : (n : ℕ) → failures_of q n ≡ min (task_failures h n) most
  pub lapses : (w op : ℕ) → s.takes w op ≡ true
      → lapses_of q w ≡ min (worker_failures h w) most

-- the entry has the task's operation, and the length of the files that are passed in
pub record IsEntry (r : Ready) (t : Task) : Type 0 where
  pub op : r.op ≡ t.op
  pub bytes : r.bytes ≡ input_bytes t.args

-- task n is ready, and this is its entry
pub record IsReadyAs (s : Setup) (h : History) (n : ℕ) (r : Ready) : Type 0 where
  pub task : Task
  pub ready : IsReady s h n task
  pub entry : IsEntry r task

-- each listed task is ready, with its entry; and each ready task that the first k questions called
-- is listed
pub record Lists (q : Queue) (s : Setup) (k : ℕ) (h : History) : Type 0 where
  pub listed : (n : ℕ) (r : Ready) → listed_of q n ≡ Some r → IsReadyAs s h n r
  pub full : (n : ℕ) (t : Task) → n ≤ count_at s k → IsReady s h n t → IsSome (listed_of q n)

-- ---- one call of the queue

-- the same tasks are listed
abbrev pub SameList : (old new : Queue) → Type 0
SameList old new = (m : ℕ) → listed_of new m ≡ listed_of old m

-- this task is listed too
abbrev pub ListsOneMore : Ready → (old new : Queue) → Type 0
ListsOneMore r old new = (m : ℕ) →
    listed_of new m ≡ (if r.n == m then Some r else listed_of old m)

-- the tasks that pass the test are listed too, each with its entry
abbrev pub ListsMore : (ℕ → Bool) → (ℕ → Ready) → (old new : Queue) → Type 0
ListsMore freed entry old new = (m : ℕ) →
    listed_of new m ≡ (if freed m then Some (entry m) else listed_of old m)

-- task n has finished
pub record FinishesTask (n : ℕ) (old new : Queue) : Type 0 where
  pub ended : EndsTask n old new
  pub failures : (m : ℕ) → failures_of new m ≡ failures_of old m
  pub lapses : (u : ℕ) → lapses_of new u ≡ lapses_of old u

-- the task has failed, and its worker with it; it is listed again
pub record FailsTask (r : Ready) (old new : Queue) : Type 0 where
  pub ended : EndsTask r.n old new
  pub listed : ListsOneMore r old new
  pub failures : (m : ℕ) → failures_of new m
      ≡ (if r.n == m then min (failures_of old m + 1) most else failures_of old m)
  pub lapses : (u op : ℕ) → takes_of old u op ≡ true → lapses_of new u
      ≡ min (lapses_of old u + is_on (job_of old r.n) u) most
