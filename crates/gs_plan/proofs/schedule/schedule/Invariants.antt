use Rattle.gs_plan.specs.State.{IsBetween}
use Rattle.gs_plan.proofs.schedule.schedule.Given as goal

abbrev pub invariant-loop-step : goal.invariant-loop-step
invariant-loop-step l = IsBetween l.slots l.longs l.ties l.state l.step
