use Rattle.std.proofs.Common.{◌≡◌}
use Rattle.gs_queue.specs.Queue.{tasks_of}
use Rattle.gs_queue.proofs.tests.fill.Given as goal

abbrev pub invariant-loop-n : goal.invariant-loop-n
invariant-loop-n l = tasks_of l.queue ≡ l.n
