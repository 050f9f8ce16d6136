use Rattle.std.proofs.Common.{◌≡◌, ◌≤◌, ◌-◌}
use Rattle.gs_plan.specs.State.{IsGate}
use Rattle.gs_plan.proofs.telling.meet.Given as goal

abbrev pub invariant-loop-gate : goal.invariant-loop-gate
invariant-loop-gate l = record {
  gate : IsGate l.tasks l.ties.needed.items l.ties.waits.items l.ends.items l.gate.reached l.gate.met l.gate.time;
  reached : l.gate.reached ≡ l.fn.gate.reached;
  within : l.gate.met ≤ l.needs;
}

abbrev pub decreases-loop-gate : goal.decreases-loop-gate
decreases-loop-gate l = l.needs - l.gate.met
