use Rattle.gs_main.specs.Shown.{talking}
use Rattle.gs_main.specs.Talking.{IsFree}
use Rattle.gs_rows_core.proofs.serial.Plain.carry.Given as goal

abbrev pub invariant-loop-i : goal.invariant-loop-i
invariant-loop-i l = IsFree (talking l.main).next
