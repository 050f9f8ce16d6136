use Rattle.gs_plan.specs.Scan.{AddsNeeds}
use Rattle.gs_plan.proofs.scan.need.Given as goal

abbrev pub invariant-loop-task : goal.invariant-loop-task
invariant-loop-task l = AddsNeeds l.from l.task l.fn.ties l.ties
