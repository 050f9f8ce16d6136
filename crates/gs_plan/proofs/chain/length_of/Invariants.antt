use Rattle.std.proofs.Common.{◌≡◌, ◌≤◌, ◌*◌, take}
use Rattle.gs_plan.specs.Schedule.{length_of}
use Rattle.gs_plan.proofs.chain.length_of.Given as goal

abbrev pub invariant-loop-task : goal.invariant-loop-task
invariant-loop-task l = record {
  sum : l.length ≡ length_of l.longs (take l.task-index l.tasks);
  small : l.length ≤ 1000000 * l.task-index;
}
