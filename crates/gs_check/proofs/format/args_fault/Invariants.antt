use Rattle.std.proofs.Common.{◌≡◌, map, drop}
use Rattle.gs_tree.specs.View.{term_of, var_of}
use Rattle.gs_check.specs.Faults.{args_fault}
use Rattle.gs_check.proofs.format.args_fault.Given as goal

abbrev pub invariant-loop-e : goal.invariant-loop-e
invariant-loop-e l = args_fault (map var_of l.vars) (map term_of (drop l.e-index l.args)) ≡ args_fault (map var_of l.vars) (map term_of l.args)
