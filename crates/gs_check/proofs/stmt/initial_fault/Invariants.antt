use Rattle.std.proofs.Common.{◌≡◌, map, drop}
use Rattle.gs_tree.specs.View.{setting_of, var_of}
use Rattle.gs_check.specs.Faults.{initial_fault}
use Rattle.gs_check.proofs.stmt.initial_fault.Given as goal

abbrev pub invariant-loop-a : goal.invariant-loop-a
invariant-loop-a l = initial_fault (map var_of l.vars) (map setting_of (drop l.a-index l.first)) ≡ initial_fault (map var_of l.vars) (map setting_of l.first)
