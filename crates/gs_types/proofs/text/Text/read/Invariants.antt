use Rattle.gs_types.specs.Bytes.{ReadsTo}
use Rattle.gs_types.proofs.text.Text.read.Given as goal

abbrev pub invariant-loop-at : goal.invariant-loop-at
invariant-loop-at l = ReadsTo l.bytes l.at
