use Rattle.gs_main.specs.Shown.{talking}
use Rattle.gs_main.specs.Talking.{IsFree}
use Rattle.gs_rows_main.proofs.desk.play.Given as goal

abbrev pub invariant-loop-asked : goal.invariant-loop-asked
invariant-loop-asked l = IsFree (talking l.main).next
