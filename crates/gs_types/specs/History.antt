-- What a link did: a list of events, the newest first.
use Rattle.std.specs.Prelude.{◌≡◌, ℕ, ◌+◌, ◌-◌, ◌==◌, List, [], ◌∷◌, length, take, Option, Some, None, if◌then◌else◌}
use Rattle.gs_types.specs.declared.value.Value.{Value}
use Rattle.gs_types.specs.declared.job.Job.{Job}

-- of task n: its outputs were recorded before the link was made; it was started as this job, or
-- refused on this worker; it finished with these outputs, or failed. And the end of all tasks in
-- flight without an answer. A link tells no `noted`
pub data LinkEvent : Type 0 where
  noted : (n : ℕ) (outs : List Value) → LinkEvent
  started : (n : ℕ) (worker : ℕ) (job : Job) → LinkEvent
  refused : (n : ℕ) (worker : ℕ) → LinkEvent
  finished : (n : ℕ) (outs : List Value) → LinkEvent
  failed : (n : ℕ) → LinkEvent
  abandoned : LinkEvent

abbrev pub History : Type 0
History = List LinkEvent

-- the part of a history since a mark, which is the length that it had then
abbrev pub since : ℕ → History → History
since mark h = take (length h - mark) h

-- the outputs that a task finished with, or was noted with
abbrev pub outs_in : History → ℕ → Option (List Value)
outs_in [] n = None
outs_in (noted m outs ∷ h) n = if m == n then Some outs else outs_in h n
outs_in (started m worker job ∷ h) n = outs_in h n
outs_in (refused m worker ∷ h) n = outs_in h n
outs_in (finished m outs ∷ h) n = if m == n then Some outs else outs_in h n
outs_in (failed m ∷ h) n = outs_in h n
outs_in (abandoned ∷ h) n = outs_in h n

-- the worker on which a task is in flight
abbrev pub worker_in : History → ℕ → Option ℕ
worker_in [] n = None
worker_in (noted m outs ∷ h) n = worker_in h n
worker_in (started m worker job ∷ h) n = if m == n then Some worker else worker_in h n
worker_in (refused m worker ∷ h) n = worker_in h n
worker_in (finished m outs ∷ h) n = if m == n then None else worker_in h n
worker_in (failed m ∷ h) n = if m == n then None else worker_in h n
worker_in (abandoned ∷ h) n = None

-- 1 where it is this worker
abbrev pub at_worker : Option ℕ → ℕ → ℕ
at_worker None w = 0
at_worker (Some worker) w = if worker == w then 1 else 0

-- the number of tasks in flight on a worker
abbrev pub busy : History → ℕ → ℕ
busy [] w = 0
busy (noted n outs ∷ h) w = busy h w
busy (started n worker job ∷ h) w = busy h w + at_worker (Some worker) w
busy (refused n worker ∷ h) w = busy h w
busy (finished n outs ∷ h) w = busy h w - at_worker (worker_in h n) w
busy (failed n ∷ h) w = busy h w - at_worker (worker_in h n) w
busy (abandoned ∷ h) w = 0

-- how often a task failed or was refused
abbrev pub task_failures : History → ℕ → ℕ
task_failures [] n = 0
task_failures (noted m outs ∷ h) n = task_failures h n
task_failures (started m worker job ∷ h) n = task_failures h n
task_failures (refused m worker ∷ h) n = task_failures h n + (if m == n then 1 else 0)
task_failures (finished m outs ∷ h) n = task_failures h n
task_failures (failed m ∷ h) n = task_failures h n + (if m == n then 1 else 0)
task_failures (abandoned ∷ h) n = task_failures h n

-- how often a worker refused a task, or a task failed that was in flight on it
abbrev pub worker_failures : History → ℕ → ℕ
worker_failures [] w = 0
worker_failures (noted n outs ∷ h) w = worker_failures h w
worker_failures (started n worker job ∷ h) w = worker_failures h w
worker_failures (refused n worker ∷ h) w = worker_failures h w + at_worker (Some worker) w
worker_failures (finished n outs ∷ h) w = worker_failures h w
worker_failures (failed n ∷ h) w = worker_failures h w + at_worker (worker_in h n) w
worker_failures (abandoned ∷ h) w = worker_failures h w

-- two histories that count the same at each task and at each worker
pub record CountAlike (h g : History) : Type 0 where
  pub outs : (n : ℕ) → outs_in h n ≡ outs_in g n
  pub workers : (n : ℕ) → worker_in h n ≡ worker_in g n
  pub loads : (w : ℕ) → busy h w ≡ busy g w
  pub by_task : (n : ℕ) → task_failures h n ≡ task_failures g n
  pub by_worker : (w : ℕ) → worker_failures h w ≡ worker_failures g w
