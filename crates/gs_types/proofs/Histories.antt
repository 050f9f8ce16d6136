-- Small histories, and what they count.
use Rattle.std.proofs.Common.{◌≡◌, refl, [], ◌∷◌, Some, None}
use Rattle.gs_types.specs.declared.value.Value.{Value}
use Rattle.gs_types.specs.declared.job.Job.{Job}
use Rattle.gs_types.specs.History.{History, noted, started, refused, finished, failed, abandoned, since, outs_in, worker_in, busy, task_failures, worker_failures}

-- task 9 was noted; task 1 failed on worker 0 and was refused on worker 2; then task 2 went to worker 0 and task 1 to worker 2
story : Job → Value → History
story job v = started 1 2 job ∷ started 2 0 job ∷ refused 1 2 ∷ failed 1 ∷ started 1 0 job ∷ noted 9 (v ∷ []) ∷ []

outs-noted : (job : Job) (v : Value) → outs_in (story job v) 9 ≡ Some (v ∷ [])
unfolding story
outs-noted job v = refl

outs-none : (job : Job) (v : Value) → outs_in (story job v) 1 ≡ None
unfolding story
outs-none job v = refl

outs-finished : (job : Job) (v : Value) → outs_in (finished 1 [] ∷ story job v) 1 ≡ Some []
unfolding story
outs-finished job v = refl

worker-again : (job : Job) (v : Value) → worker_in (story job v) 1 ≡ Some 2
unfolding story
worker-again job v = refl

worker-noted : (job : Job) (v : Value) → worker_in (story job v) 9 ≡ None
unfolding story
worker-noted job v = refl

worker-finished : (job : Job) (v : Value) → worker_in (finished 1 [] ∷ story job v) 1 ≡ None
unfolding story
worker-finished job v = refl

worker-abandoned : (job : Job) (v : Value) → worker_in (abandoned ∷ story job v) 2 ≡ None
unfolding story
worker-abandoned job v = refl

busy-both : (job : Job) (v : Value) → busy (started 3 0 job ∷ story job v) 0 ≡ 2
unfolding story
busy-both job v = refl

busy-finished : (job : Job) (v : Value) → busy (finished 1 [] ∷ story job v) 2 ≡ 0
unfolding story
busy-finished job v = refl

busy-other : (job : Job) (v : Value) → busy (finished 1 [] ∷ story job v) 0 ≡ 1
unfolding story
busy-other job v = refl

busy-abandoned : (job : Job) (v : Value) → busy (abandoned ∷ story job v) 0 ≡ 0
unfolding story
busy-abandoned job v = refl

task-twice : (job : Job) (v : Value) → task_failures (story job v) 1 ≡ 2
unfolding story
task-twice job v = refl

task-abandoned : (job : Job) (v : Value) → task_failures (abandoned ∷ story job v) 2 ≡ 0
unfolding story
task-abandoned job v = refl

worker_failures-started : (job : Job) (v : Value) → worker_failures (story job v) 0 ≡ 1
unfolding story
worker_failures-started job v = refl

worker_failures-refused : (job : Job) (v : Value) → worker_failures (failed 1 ∷ story job v) 2 ≡ 2
unfolding story
worker_failures-refused job v = refl

since-noted : (job : Job) (v : Value) → since 5 (story job v) ≡ started 1 2 job ∷ []
unfolding story
since-noted job v = refl
