use Rattle.std.specs.Coded.{le_prop}
use Rattle.gs_policy.proofs.tests.a_policy_answers_its_closure.Goals as goal

pub cost_by-cost-requires-clause-facts : goal.cost_by-cost-requires-clause-facts
cost_by-cost-requires-clause-facts c = λ op worker bytes. le_prop
