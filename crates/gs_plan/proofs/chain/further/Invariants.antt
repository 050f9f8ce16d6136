use Rattle.std.proofs.Common.{◌≤◌, ◌-◌}
use Rattle.gs_plan.specs.Ties.{HasNeed}
use Rattle.gs_plan.specs.Chain.{IsLatest}
use Rattle.gs_plan.proofs.chain.further.Given as goal

abbrev pub invariant-loop-last : goal.invariant-loop-last
invariant-loop-last l = record {
  within : l.last.met ≤ l.needs;
  latest : IsLatest (HasNeed l.ties l.last.met) l.ends l.last.task;
}

abbrev pub decreases-loop-last : goal.decreases-loop-last
decreases-loop-last l = l.needs - l.last.met
