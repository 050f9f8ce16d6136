use Rattle.std.proofs.Common.{◌≡◌, drop}
use Rattle.gs_broker.specs.Text.{stands}
use Rattle.gs_broker.specs.Reading.{spelled}
use Rattle.gs_broker.proofs.operations.stands.Given as goal

abbrev pub invariant-loop-other : goal.invariant-loop-other
invariant-loop-other l = stands l.word (spelled (drop l.other-index l.words)) ≡ stands l.word (spelled l.words)
