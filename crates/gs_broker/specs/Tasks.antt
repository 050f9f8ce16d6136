-- What the table of tasks and the slab of jobs say.
use Rattle.std.specs.Prelude.{◌≡◌, ◌≢◌, ℕ, Option, Some, None, IsSome, ◌==◌, if◌then◌else◌}
use Rattle.gs_broker.specs.declared.tasks.Line.{Line}
use Rattle.gs_broker.specs.declared.tasks.Flight.{Flight}

abbrev pub key_of : Option Line → Option ℕ
key_of None = None
key_of (Some l) = l.key

abbrev pub failures_of : Option Line → ℕ
failures_of None = 0
failures_of (Some l) = l.failures

-- the worker of the job, where it is the job of task n
abbrev pub worker_of : ℕ → Option Flight → Option ℕ
worker_of n None = None
worker_of n (Some j) = if j.n == n then Some j.worker else None

-- the worker of task n's job, where it stands under the key
abbrev pub worker_at : (ℕ → Option Flight) → ℕ → Option ℕ → Option ℕ
worker_at jobs n None = None
worker_at jobs n (Some k) = worker_of n (jobs k)

-- whatever key another task has, it finds its job there as before
abbrev pub OthersStay : ℕ → (ℕ → Option Flight) → (ℕ → Option Flight) → Type 0
OthersStay n old new =
    (m : ℕ) → n ≢ m → (key : Option ℕ) → worker_at new m key ≡ worker_at old m key

-- a task in flight, or none is
abbrev pub IsAnyJob : (ℕ → Option ℕ) → Option ℕ → Type 0
IsAnyJob job None = (n : ℕ) → job n ≡ None
IsAnyJob job (Some n) = IsSome (job n)

-- a task in flight whose job is this one, or there is none
abbrev pub IsJobUnder : (ℕ → Option ℕ) → Option Flight → Option ℕ → Type 0
IsJobUnder job flight None = (j : Flight) → flight ≡ Some j → job j.n ≡ None
IsJobUnder job flight (Some n) = IsSome (job n)
