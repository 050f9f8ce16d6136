use Rattle.std.proofs.Common.{◌-◌}
use Rattle.gs_plan.specs.State.{WaitingOf, GateOf, KeepsPlaced, time_at}
use Rattle.gs_plan.proofs.telling.pass.Given as goal

abbrev pub invariant-loop-state : goal.invariant-loop-state
invariant-loop-state l = record {
  waiting : WaitingOf l.tasks l.ties l.state (time_at l.ties.befores.items l.state.ends.items) l.state.gate.reached;
  gate : GateOf l.tasks l.ties l.state l.state.gate;
  keeps : KeepsPlaced l.fn.state l.state;
}

abbrev pub decreases-loop-state : goal.decreases-loop-state
decreases-loop-state l = l.tasks - l.state.gate.reached
