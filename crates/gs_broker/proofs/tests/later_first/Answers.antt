use Rattle.std.specs.Coded.{le_prop}
use Rattle.gs_broker.proofs.tests.later_first.Goals as goal

pub picked-requires-clause-facts : goal.picked-requires-clause-facts
picked-requires-clause-facts c = λ op worker bytes. le_prop
