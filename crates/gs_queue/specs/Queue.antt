-- What a queue says, as plain functions.
use Rattle.std.specs.Prelude.{◌≡◌, ◌<◌, ◌≤◌, ◌+◌, ◌-◌, ◌==◌, ◌&&◌, nat_lt, ℕ, Bool, true, false, Option, Some, None, IsSome, if◌then◌else◌}
use Rattle.gs_types.specs.declared.limits.TheConstants.{WORKER_FAILURES}
use Rattle.gs_policy.specs.Cost.{Cost}
use Rattle.gs_broker.specs.Broker.{workers_in, slots_in, takes_in, tries_in, job_in, busy_in, failures_in, lapses_in}
use Rattle.gs_broker.specs.Choice.{before, pair_of, IsTaskInRange}
use Rattle.gs_broker.specs.Counts.{is_on, IsStranded}
use Rattle.gs_broker.specs.declared.broker.Broker.{Broker}
use Rattle.gs_broker.specs.declared.choice.Ready.{Ready}
use Rattle.gs_broker.specs.declared.workers.Workers.{Workers}
use Rattle.gs_queue.specs.Views.{size_in, task_in}
use Rattle.gs_queue.specs.declared.queue.Queue.{Queue}

-- how many tasks there are; they have the numbers from 1 on
unfoldable pub tasks_of : Queue → ℕ
tasks_of q = size_in q.listed

-- the listed task of this number: one that may be started
unfoldable pub listed_of : Queue → ℕ → Option Ready
listed_of q n = task_in q.listed n

-- the list of workers
unfoldable pub workers_of : Queue → Workers
workers_of q = workers_in q.broker

-- how many jobs a worker takes at once
unfoldable pub slots_of : Queue → ℕ → ℕ
slots_of q w = slots_in q.broker w

-- whether a worker takes an operation
unfoldable pub takes_of : Queue → ℕ → ℕ → Bool
takes_of q w op = takes_in q.broker w op

-- the failures at which a task is lost
unfoldable pub tries_of : Queue → ℕ
tries_of q = tries_in q.broker

-- the worker on which a task is in flight
unfoldable pub job_of : Queue → ℕ → Option ℕ
job_of q n = job_in q.broker n

-- how many jobs a worker has
unfoldable pub busy_of : Queue → ℕ → ℕ
busy_of q w = busy_in q.broker w

-- how often a task has failed
unfoldable pub failures_of : Queue → ℕ → ℕ
failures_of q n = failures_in q.broker n

-- how often a worker has failed
unfoldable pub lapses_of : Queue → ℕ → ℕ
lapses_of q w = lapses_in q.broker w

-- whether a worker has a free slot and has not failed too often
abbrev pub usable_of : Queue → ℕ → Bool
usable_of q w = nat_lt (busy_of q w) (slots_of q w) && nat_lt (lapses_of q w) WORKER_FAILURES

-- no task yet; workers, jobs and what was counted are the broker's
pub record BeginsWith (broker : Broker) (q : Queue) : Type 0 where
  pub tasks : tasks_of q ≡ 0
  pub listed : (n : ℕ) → listed_of q n ≡ None
  pub workers : workers_of q ≡ workers_in broker
  pub slots : (w : ℕ) → slots_of q w ≡ slots_in broker w
  pub takes : (w op : ℕ) → takes_of q w op ≡ takes_in broker w op
  pub tries : tries_of q ≡ tries_in broker
  pub jobs : (n : ℕ) → job_of q n ≡ None
  pub busy : (w : ℕ) → busy_of q w ≡ busy_in broker w
  pub failures : (n : ℕ) → failures_of q n ≡ failures_in broker n
  pub lapses : (w : ℕ) → lapses_of q w ≡ lapses_in broker w

-- both have the same workers and the same tries
pub record SameWorkers (old new : Queue) : Type 0 where
  pub listed : workers_of new ≡ workers_of old
  pub slots : (w : ℕ) → slots_of new w ≡ slots_of old w
  pub takes : (w op : ℕ) → takes_of new w op ≡ takes_of old w op
  pub tries : tries_of new ≡ tries_of old

-- both have the same workers and the same jobs in flight, and the same was counted
pub record SameRun (old new : Queue) : Type 0 where
  pub workers : SameWorkers old new
  pub jobs : (n : ℕ) → job_of new n ≡ job_of old n
  pub busy : (w : ℕ) → busy_of new w ≡ busy_of old w
  pub failures : (n : ℕ) → failures_of new n ≡ failures_of old n
  pub lapses : (w : ℕ) → lapses_of new w ≡ lapses_of old w

-- task n is one of the tasks
abbrev pub IsTask : ℕ → Queue → Type 0
IsTask n q = (0 < n) × (n ≤ tasks_of q)

-- task n is listed as this one: it has its number, is one of the tasks and not in flight, and is
-- in the range at which costs are asked for
pub record IsListed (n : ℕ) (r : Ready) (q : Queue) : Type 0 where
  pub number : r.n ≡ n
  pub numbered : IsTask n q
  pub idle : job_of q n ≡ None
  pub range : IsTaskInRange r

-- so is each listed task
abbrev pub AreListed : Queue → Type 0
AreListed q = (n : ℕ) (r : Ready) → listed_of q n ≡ Some r → IsListed n r q

-- task n is one of the tasks, listed and not in flight, and worker w has a free slot
pub record MayStart (n w : ℕ) (q : Queue) : Type 0 where
  pub numbered : IsTask n q
  pub listed : IsSome (listed_of q n)
  pub idle : job_of q n ≡ None
  pub free : busy_of q w < slots_of q w

-- task n is in flight on worker w, which has a slot less, and is not listed; nothing else was
-- counted
pub record StartsTask (n w : ℕ) (old new : Queue) : Type 0 where
  pub tasks : tasks_of new ≡ tasks_of old
  pub listed : (m : ℕ) → listed_of new m ≡ (if n == m then None else listed_of old m)
  pub workers : SameWorkers old new
  pub jobs : (m : ℕ) → job_of new m ≡ (if n == m then Some w else job_of old m)
  pub busy : (u : ℕ) → busy_of new u ≡ busy_of old u + is_on (Some w) u
  pub failures : (m : ℕ) → failures_of new m ≡ failures_of old m
  pub lapses : (u : ℕ) → lapses_of new u ≡ lapses_of old u

-- task n is no longer in flight, and its worker has a slot more
pub record EndsTask (n : ℕ) (old new : Queue) : Type 0 where
  pub tasks : tasks_of new ≡ tasks_of old
  pub workers : SameWorkers old new
  pub jobs : (m : ℕ) → job_of new m ≡ (if n == m then None else job_of old m)
  pub busy : (u : ℕ) → busy_of new u ≡ busy_of old u - is_on (job_of old n) u

-- task n is listed, worker w takes it and is usable, and no other such pair is before this one
pub record IsLeastPairIn (cost : Cost) (q : Queue) (n w : ℕ) : Type 0 where
  pub task : Ready
  pub listed : listed_of q n ≡ Some task
  pub taken : takes_of q w task.op ≡ true
  pub usable : usable_of q w ≡ true
  pub least : (m u : ℕ) (r : Ready) → listed_of q m ≡ Some r → takes_of q u r.op ≡ true →
      usable_of q u ≡ true → before (pair_of cost u r) (pair_of cost w task) ≡ false

-- the listed task and the usable worker that takes it that cost least, or there are none
abbrev pub IsLeastStart : Cost → Queue → Option (ℕ × ℕ) → Type 0
IsLeastStart cost q None =
    (n w : ℕ) (r : Ready) → listed_of q n ≡ Some r → takes_of q w r.op ≡ true →
    usable_of q w ≡ true → ⊥
IsLeastStart cost q (Some p) = IsLeastPairIn cost q p.0 p.1

-- each worker that takes the operation has failed too often
abbrev pub IsStrandedIn : Queue → ℕ → Type 0
IsStrandedIn q op = IsStranded (takes_of q) (lapses_of q) op

-- task n is listed and stranded, and no listed task before it is
pub record IsLeastStrandedIn (q : Queue) (n : ℕ) : Type 0 where
  pub task : Ready
  pub listed : listed_of q n ≡ Some task
  pub stranded : IsStrandedIn q task.op
  pub least : (m : ℕ) (r : Ready) → listed_of q m ≡ Some r → IsStrandedIn q r.op → n ≤ m

-- the least listed task that is stranded, or there is none
abbrev pub IsNoWorker : Queue → Option ℕ → Type 0
IsNoWorker q None = (n : ℕ) (r : Ready) → listed_of q n ≡ Some r → IsStrandedIn q r.op → ⊥
IsNoWorker q (Some n) = IsLeastStrandedIn q n
