use Rattle.std.proofs.Common.{◌≡◌, map, drop}
use Rattle.gs_idl.specs.Interface.{params_at}
use Rattle.gs_tree.specs.View.{passed_of}
use Rattle.gs_check.specs.Faults.{stands_out}
use Rattle.gs_check.proofs.call.stands_out.Given as goal

abbrev pub invariant-loop-k : goal.invariant-loop-k
invariant-loop-k l =
    let params = params_at l.idl.ops l.op in
    stands_out (drop l.k params) (map passed_of (drop l.k l.before)) l.name ≡ stands_out params (map passed_of l.before) l.name
