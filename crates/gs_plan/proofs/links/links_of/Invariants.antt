use Rattle.gs_plan.specs.Ties.{IsIndex}
use Rattle.gs_plan.proofs.links.links_of.Given as goal

abbrev pub invariant-loop-e : goal.invariant-loop-e
invariant-loop-e l = IsIndex l.befores l.tasks l.e l.heads.items l.links.items
