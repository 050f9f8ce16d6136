use Rattle.std.proofs.Common.{◌<◌, ◌≤◌, ◌+◌, [], ◌∷◌, List, length, map, drop, ap, ◌∙◌, arith, ◌⊎◌, inl, inr}
use Rattle.std.proofs.lemmas.List.{map-append}
use Rattle.std.proofs.lemmas.Bool.{cases_lt}
use Rattle.gs_idl.specs.Interface.{params_at}
use Rattle.gs_talk.specs.Passed.{passed_values}
use Rattle.gs_talk.specs.declared.question.CallArg.{CallArg}
use Rattle.gs_orders.specs.Steps.{handed_of}
use Rattle.gs_pieces.specs.declared.passed.Passed.{Passed}
use Rattle.gs_pieces.specs.Places.{arg_in, args_in, passed_value}
use Rattle.gs_pieces.proofs.Passing.{after_args, passed_more, passed_trouble, passed_end, passed_past, trouble_passed}
use Rattle.gs_pieces.proofs.passed.passed_all.Goals as goal

pub returns-in-Err-clause-finds : goal.returns-in-Err-clause-finds
returns-in-Err-clause-finds c =
    let ps = params_at c.args.idl.now.ops c.args.op in
    trouble_passed (passed_values ps (map handed_of c.args.args.now) c.args.vars.now) (passed_value c.param-kind.result.1 (handed_of c.index-args-j.result) c.args.vars.now) c.in-Err.e c.in-Err.ensures
    (λ t e. passed_trouble handed_of ps c.args.args.now c.args.vars.now c.loop-j.j c.param-kind.result.1 c.index-args-j.result (args_in c.loop-j.all.items) t (passed_values ps (map handed_of c.args.args.now) c.args.vars.now)
    c.param-kind.ensures.kind (omega (arith, c.min-j-end.ensures, c.loop-j-test.true)) c.index-args-j.is e c.loop-j.invariant.finds)

pub loop-j-preserved : goal.loop-j-preserved
loop-j-preserved c =
    let ps = params_at c.args.idl.now.ops c.args.op in
    let rest = passed_values (drop (c.loop-j.j + 1) ps) (map handed_of (drop (c.loop-j.j + 1) c.args.args.now)) c.args.vars.now in record {
      count = omega (arith, c.in_ok-push-in-Ok.ensures.len, c.loop-j.invariant.count);
      finds =
          ap (λ (xs : List Passed). after_args (args_in xs) rest) c.in_ok-push-in-Ok.ensures.items
          ∙ ap (λ (xs : List CallArg). after_args xs rest) (map-append arg_in c.loop-j.all.items (c.in-Ok.one ∷ []))
          ∙ passed_more handed_of ps c.args.args.now c.args.vars.now c.loop-j.j c.param-kind.result.1 c.index-args-j.result (args_in c.loop-j.all.items) (arg_in c.in-Ok.one) (passed_values ps (map handed_of c.args.args.now) c.args.vars.now)
          c.param-kind.ensures.kind (omega (arith, c.min-j-end.ensures, c.loop-j-test.true)) c.index-args-j.is c.in-Ok.ensures c.loop-j.invariant.finds;
    }

pub returns-clause-finds : goal.returns-clause-finds
returns-clause-finds c =
    let ps = params_at c.args.idl.now.ops c.args.op in
    let all = passed_values ps (map handed_of c.args.args.now) c.args.vars.now in
    let by : (c.loop-j.j < length c.args.args.now) ⊎ (length c.args.args.now ≤ c.loop-j.j) = cases_lt c.loop-j.j (length c.args.args.now) in
    elim by [
      | inl lt ↦ passed_past handed_of ps c.args.args.now c.args.vars.now c.loop-j.j (args_in c.loop-j.all.items) all (omega (arith, c.min-j-end.ensures, c.place_count.ensures.count, c.loop-j-test.false)) c.loop-j.invariant.finds
      | inr ge ↦ passed_end handed_of ps c.args.args.now c.args.vars.now c.loop-j.j (args_in c.loop-j.all.items) all ge c.loop-j.invariant.finds
    ]
