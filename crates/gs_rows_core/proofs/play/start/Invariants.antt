use Rattle.gs_rows_core.specs.Due.{IsSettled}
use Rattle.gs_rows_core.proofs.play.start.Given as goal

abbrev pub invariant-loop-i : goal.invariant-loop-i
invariant-loop-i g l = IsSettled l.core
