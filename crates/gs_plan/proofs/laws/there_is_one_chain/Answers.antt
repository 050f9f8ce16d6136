use Rattle.gs_plan.specs.Actions.{precedes}
use Rattle.gs_plan.proofs.Tables.{one_chain}
use Rattle.gs_plan.proofs.laws.there_is_one_chain.Goals as goal

pub returns : goal.returns
returns c = λ longs starts actions a b. one_chain longs (precedes actions) starts a b
