use Rattle.std.proofs.Common.{◌++◌, [], ◌∷◌, ◌+◌, List, drop, map, ap, ◌∙◌, arith}
use Rattle.std.proofs.lemmas.List.{map-append}
use Rattle.gs_orders.specs.declared.hand.Handed.{Handed}
use Rattle.gs_idl.specs.Interface.{params_at}
use Rattle.gs_tree.specs.View.{passed_of}
use Rattle.gs_talk.specs.Talk.{all_handed}
use Rattle.gs_orders.specs.Steps.{handed_of}
use Rattle.gs_orders.proofs.Handing.{next_handed, no_more}
use Rattle.gs_orders.proofs.hand.hand_all.Goals as goal

pub loop-j-preserved : goal.loop-j-preserved
loop-j-preserved t =
    let params = params_at t.args.idl.now.ops t.args.op in
    let rest = all_handed t.args.names.now (drop (t.loop-j.j + 1) params) (map passed_of (drop (t.loop-j.j + 1) t.args.args.now)) in
    ap (λ (xs : List Handed). map handed_of xs ++ rest) t.in_ok-push.ensures.items
    ∙ ap (λ ys. ys ++ rest) (map-append handed_of t.loop-j.all.items (t.in_ok-hand.field-0 ∷ []))
    ∙ next_handed t.args.names.now params t.args.args.now t.loop-j.j t.param-dir.result.0 t.param-dir.result.1 t.index-args-j.result
    (map handed_of t.loop-j.all.items) (handed_of t.in_ok-hand.field-0) (all_handed t.args.names.now params (map passed_of t.args.args.now))
    t.param-dir.ensures.dir t.param-dir.ensures.kind t.in_ok-hand.ensures (omega (arith, t.min-j-end.ensures, t.loop-j-test.true)) t.index-args-j.is t.loop-j.invariant

pub returns : goal.returns
returns t =
    let params = params_at t.args.idl.now.ops t.args.op in
    no_more t.args.names.now params t.args.args.now t.loop-j.j (map handed_of t.loop-j.all.items) (all_handed t.args.names.now params (map passed_of t.args.args.now))
    (omega (arith, t.min-j-end.ensures, t.param_count.ensures, t.loop-j-test.false)) t.loop-j.invariant
