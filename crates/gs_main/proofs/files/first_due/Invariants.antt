use Rattle.std.proofs.Common.{◌≡◌, drop}
use Rattle.gs_main.specs.Parts.{first_due}
use Rattle.gs_main.proofs.files.first_due.Given as goal

abbrev pub invariant-loop-i : goal.invariant-loop-i
invariant-loop-i l = first_due l.i (drop l.i l.vars) ≡ first_due 0 l.vars
