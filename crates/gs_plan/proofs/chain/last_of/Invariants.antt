use Rattle.std.proofs.Common.{◌<◌}
use Rattle.gs_plan.specs.Chain.{IsLatest}
use Rattle.gs_plan.proofs.chain.last_of.Given as goal

abbrev pub invariant-loop-task : goal.invariant-loop-task
invariant-loop-task l = IsLatest (λ i. i < l.task) l.ends l.best
