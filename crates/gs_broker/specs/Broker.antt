-- What a broker says, as plain functions.
use Rattle.std.specs.Prelude.{◌≡◌, ◌≤◌, ◌+◌, ◌-◌, ◌==◌, if◌then◌else◌, true, Some, ℕ, ◌&&◌, nat_lt, nat_eq, Bool, false, List, Option, None, is_some, slice_index}
use Rattle.std.specs.HashMap.{get as line_at, spare}
use Rattle.slab.specs.Slab.{get as flight_at}
use Rattle.gs_broker.specs.Workers.{slots_at, takes_at}
use Rattle.gs_broker.specs.Counts.{is_on, IsStranded}
use Rattle.gs_policy.specs.Cost.{Cost}
use Rattle.gs_broker.specs.Choice.{IsChosen}
use Rattle.gs_broker.specs.declared.choice.Ready.{Ready}
use Rattle.gs_broker.specs.Tasks.{key_of, failures_of, worker_at}
use Rattle.gs_broker.specs.declared.workers.Workers.{Workers}
use Rattle.gs_broker.specs.Listed.{slots_of_list, takes_of_list}
use Rattle.gs_types.specs.declared.limits.TheConstants.{WORKER_FAILURES}
use Rattle.gs_broker.specs.declared.broker.Broker.{Broker}

-- the list of workers
unfoldable pub workers_in : Broker → Workers
workers_in b = b.workers

-- how many jobs a worker takes at once
unfoldable pub slots_in : Broker → ℕ → ℕ
slots_in b w = slots_at b.workers.list.items w

-- whether a worker takes an operation
unfoldable pub takes_in : Broker → ℕ → ℕ → Bool
takes_in b w op = takes_at b.workers.list.items w op

-- the failures at which a task is lost
unfoldable pub tries_in : Broker → ℕ
tries_in b = b.tries

-- the worker on which a task is in flight
unfoldable pub job_in : Broker → ℕ → Option ℕ
job_in b n = worker_at (flight_at b.jobs) n (key_of (line_at nat_eq b.tasks n))

-- how many jobs a worker has
unfoldable pub busy_in : Broker → ℕ → ℕ
busy_in b w = slice_index b.busy.items w

-- how often a task has failed
unfoldable pub failures_in : Broker → ℕ → ℕ
failures_in b n = failures_of (line_at nat_eq b.tasks n)

-- how often a worker has failed
unfoldable pub lapses_in : Broker → ℕ → ℕ
lapses_in b w = slice_index b.lapses.items w

-- whether a task was ever started
unfoldable pub is_known : Broker → ℕ → Bool
is_known b n = is_some (line_at nat_eq b.tasks n)

-- how many tasks may be started for the first time
unfoldable pub spare_in : Broker → ℕ
spare_in b = spare b.tasks

-- whether a worker has a free slot and has not failed too often
abbrev pub usable_in : Broker → ℕ → Bool
usable_in b w = nat_lt (busy_in b w) (slots_in b w) && nat_lt (lapses_in b w) WORKER_FAILURES

-- both have the same workers and the same tries
pub record SameWorkers (old new : Broker) : Type 0 where
  pub listed : workers_in new ≡ workers_in old
  pub slots : (w : ℕ) → slots_in new w ≡ slots_in old w
  pub takes : (w op : ℕ) → takes_in new w op ≡ takes_in old w op
  pub tries : tries_in new ≡ tries_in old

-- both have the same jobs in flight, and the same was counted
pub record SameJobs (old new : Broker) : Type 0 where
  pub jobs : (n : ℕ) → job_in new n ≡ job_in old n
  pub busy : (w : ℕ) → busy_in new w ≡ busy_in old w
  pub failures : (n : ℕ) → failures_in new n ≡ failures_in old n
  pub lapses : (w : ℕ) → lapses_in new w ≡ lapses_in old w
  pub known : (n : ℕ) → is_known new n ≡ is_known old n

-- nothing was started, and nothing has failed
pub record IsFresh (workers : Workers) (tries : ℕ) (b : Broker) : Type 0 where
  pub slots : (w : ℕ) → slots_in b w ≡ slots_of_list workers w
  pub takes : (w op : ℕ) → takes_in b w op ≡ takes_of_list workers w op
  pub listed : workers_in b ≡ workers
  pub times : tries_in b ≡ tries
  pub jobs : (n : ℕ) → job_in b n ≡ None
  pub busy : (w : ℕ) → busy_in b w ≡ 0
  pub failures : (n : ℕ) → failures_in b n ≡ 0
  pub lapses : (w : ℕ) → lapses_in b w ≡ 0
  pub known : (n : ℕ) → is_known b n ≡ false

-- task n is in flight on worker w, which has a slot less; nothing else was counted. It uses up at
-- most one of the room, and none where the task was started before
pub record IsStarted (n w : ℕ) (old new : Broker) : Type 0 where
  pub workers : SameWorkers old new
  pub jobs : (m : ℕ) → job_in new m ≡ (if n == m then Some w else job_in old m)
  pub busy : (u : ℕ) → busy_in new u ≡ busy_in old u + is_on (Some w) u
  pub failures : (m : ℕ) → failures_in new m ≡ failures_in old m
  pub lapses : (u : ℕ) → lapses_in new u ≡ lapses_in old u
  pub known : (m : ℕ) → is_known new m ≡ (if n == m then true else is_known old m)
  pub spare : spare_in old ≤ spare_in new + 1
  pub again : is_known old n ≡ true → spare_in old ≤ spare_in new

-- task n is no longer in flight, and its worker has a slot more
pub record IsEnded (n : ℕ) (old new : Broker) : Type 0 where
  pub workers : SameWorkers old new
  pub jobs : (m : ℕ) → job_in new m ≡ (if n == m then None else job_in old m)
  pub busy : (u : ℕ) → busy_in new u ≡ busy_in old u - is_on (job_in old n) u
  pub known : (m : ℕ) → is_known new m ≡ is_known old m
  pub spare : spare_in old ≤ spare_in new

-- each worker that takes the operation has failed too often
abbrev pub IsStrandedIn : Broker → ℕ → Type 0
IsStrandedIn b op = IsStranded (takes_in b) (lapses_in b) op

-- the task and the worker that cost least, or there are none
abbrev pub IsPicked : Cost → Broker → List Ready → Option (ℕ × ℕ) → Type 0
IsPicked cost b ready picked = IsChosen cost (takes_in b) (usable_in b) ready picked
