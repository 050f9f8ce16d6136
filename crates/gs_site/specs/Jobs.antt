-- The jobs in flight of a link in memory, in the order of their starts.
use Rattle.std.specs.Prelude.{ℕ, ◌==◌, ◌%◌, not, List, length, filter, find, slice_get, Option, Some, None}
use Rattle.gs_types.specs.declared.job.Job.{Job}

-- the job of a task
abbrev pub job_at : List Job → ℕ → Option Job
job_at jobs n = find (λ job. job.n == n) jobs

abbrev pub without : ℕ → List Job → List Job
without n jobs = filter (λ job. not (job.n == n)) jobs

abbrev pub number_of : Option Job → ℕ
number_of None = 0
number_of (Some job) = job.n

-- the task of the job at a place, modulo their number
abbrev pub picked : List Job → ℕ → ℕ
picked jobs pick = number_of (slice_get jobs (pick % length jobs))
