use Rattle.std.proofs.Common.{◌≡◌}
use Rattle.gs_proc.specs.Tasks.{calls}
use Rattle.gs_proc.proofs.wait.poll.Given as goal

abbrev pub invariant-loop : goal.invariant-loop
invariant-loop g l = calls l.tasks.items ≡ calls l.initial.tasks.items
