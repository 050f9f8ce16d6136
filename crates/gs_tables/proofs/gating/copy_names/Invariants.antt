use Rattle.std.proofs.Common.{◌≡◌, take}
use Rattle.gs_names.specs.Table.{names_in}
use Rattle.gs_tables.proofs.gating.copy_names.Given as goal

abbrev pub invariant-loop-i : goal.invariant-loop-i
invariant-loop-i l = l.names ≡ take l.i (names_in l.table)
