use Rattle.std.proofs.Common.{◌≡◌, ◌+◌, ◌<◌, ◌⊎◌, ℕ, length, slice_index}
use Rattle.gs_plan.specs.Ties.{past}
use Rattle.gs_plan.specs.State.{WaitingOf, KeepsPlaced, time_from}
use Rattle.gs_plan.proofs.telling.release.Given as goal

abbrev pub invariant-loop-edge : goal.invariant-loop-edge
invariant-loop-edge l = record {
  waiting : WaitingOf l.tasks l.ties l.state (time_from l.ties.befores.items l.state.ends.items l.task (past l.edge)) l.state.gate.reached;
  edge_is : (past l.edge ≡ 0) ⊎ ((e : ℕ) × (past l.edge ≡ e + 1) × (e < length l.ties.befores.items) × (slice_index l.ties.befores.items e ≡ l.task));
  keeps : KeepsPlaced l.fn.state l.state;
  gate : l.state.gate ≡ l.fn.state.gate;
}

abbrev pub decreases-loop-edge : goal.decreases-loop-edge
decreases-loop-edge l = past l.edge
