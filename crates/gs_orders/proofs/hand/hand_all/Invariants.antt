use Rattle.std.proofs.Common.{◌≡◌, ◌++◌, map, drop}
use Rattle.gs_idl.specs.Interface.{params_at}
use Rattle.gs_tree.specs.View.{passed_of}
use Rattle.gs_talk.specs.Talk.{all_handed}
use Rattle.gs_orders.specs.Steps.{handed_of}
use Rattle.gs_orders.proofs.hand.hand_all.Given as goal

abbrev pub invariant-loop-j : goal.invariant-loop-j
invariant-loop-j l =
    let params = params_at l.idl.ops l.op in
    map handed_of l.all.items ++ all_handed l.names (drop l.j params) (map passed_of (drop l.j l.args)) ≡ all_handed l.names params (map passed_of l.args)
