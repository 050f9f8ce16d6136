use Rattle.std.proofs.Common.{suc}
use Rattle.gs_queue.specs.Fronts.{task_at, NoneBetween}
use Rattle.gs_queue.proofs.kinds.next_alike.Given as goal

abbrev pub invariant-loop-place : goal.invariant-loop-place
invariant-loop-place l = NoneBetween (task_at l.tasks) l.f (suc l.place)
