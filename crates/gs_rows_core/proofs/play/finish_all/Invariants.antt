use Rattle.gs_rows_core.specs.Due.{IsDue}
use Rattle.gs_rows_core.proofs.play.finish_all.Given as goal

abbrev pub invariant-loop-i : goal.invariant-loop-i
invariant-loop-i g l = IsDue l.core
