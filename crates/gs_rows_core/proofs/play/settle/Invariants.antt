use Rattle.gs_rows_core.specs.Due.{IsDue}
use Rattle.gs_rows_core.proofs.play.settle.Given as goal

abbrev pub invariant-loop-i : goal.invariant-loop-i
invariant-loop-i l = IsDue l.core
