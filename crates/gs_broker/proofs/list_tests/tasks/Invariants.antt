use Rattle.std.proofs.Common.{◌≡◌, length}
use Rattle.gs_broker.specs.Choice.{AreInRange}
use Rattle.gs_broker.proofs.list_tests.tasks.Given as goal

abbrev pub invariant-loop-n : goal.invariant-loop-n
invariant-loop-n l = record { ready : AreInRange l.ready.items; count : length l.ready.items ≡ l.n }
