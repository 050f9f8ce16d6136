use Rattle.std.proofs.Common.{◌≡◌, length, take}
use Rattle.gs_plan.specs.Planned.{slots_of, starts_of, HaveRows}
use Rattle.gs_plan.proofs.planning.rows.Given as goal

abbrev pub invariant-loop-task : goal.invariant-loop-task
invariant-loop-task l = record {
  count : length l.rows.items ≡ l.task;
  slots : slots_of l.rows.items ≡ take l.task l.state.slots.items;
  starts : starts_of l.rows.items ≡ take l.task l.state.starts.items;
  each : HaveRows l.rows.items l.state.ends.items;
}
