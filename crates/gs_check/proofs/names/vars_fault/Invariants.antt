use Rattle.std.proofs.Common.{◌≡◌, [], map, take, drop}
use Rattle.gs_tree.specs.View.{var_of}
use Rattle.gs_check.specs.Faults.{vars_fault}
use Rattle.gs_check.proofs.names.vars_fault.Given as goal

abbrev pub invariant-loop-i : goal.invariant-loop-i
invariant-loop-i l = vars_fault l.idl.ops (map var_of (take l.i l.vars)) (map var_of (drop l.i l.vars)) ≡ vars_fault l.idl.ops [] (map var_of l.vars)
