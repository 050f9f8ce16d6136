use Rattle.gs_rows_core.specs.Due.{IsDue}
use Rattle.gs_rows_core.proofs.play.happen_all.Given as goal

abbrev pub invariant-loop-event : goal.invariant-loop-event
invariant-loop-event g l = IsDue l.core
