use Rattle.std.proofs.Common.{◌≡◌, [], map, take, drop}
use Rattle.gs_idl.specs.Interface.{params_at}
use Rattle.gs_tree.specs.View.{passed_of, var_of}
use Rattle.gs_check.specs.Faults.{all_passed_fault}
use Rattle.gs_check.proofs.call.args_fault.Given as goal

abbrev pub invariant-loop-j : goal.invariant-loop-j
invariant-loop-j l =
    let params = params_at l.idl.ops l.op in
    all_passed_fault (map var_of l.vars) params (map passed_of (take l.j l.args)) (drop l.j params) (map passed_of (drop l.j l.args))
    ≡ all_passed_fault (map var_of l.vars) params [] params (map passed_of l.args)
