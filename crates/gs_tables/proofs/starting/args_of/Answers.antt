use Rattle.std.proofs.Common.{◌≡◌, ◌∙◌, refl, sym, ap, subst, ◌<◌, ◌≤◌, ◌+◌, ◌∷◌, ◌++◌, [], ℕ, List, Option, Some, suc, length, drop, arith, append_assoc}
use Rattle.std.specs.Prelude.{min, get_or}
use Rattle.std.specs.List.{slice_get}
use Rattle.std.proofs.lemmas.Option.{slice_get_read}
use Rattle.gs_idl.specs.Interface.{params_at}
use Rattle.gs_types.specs.declared.note.Version.{Version}
use Rattle.gs_talk.specs.declared.question.CallArg.{CallArg}
use Rattle.gs_tables.specs.Starts.{both_at, start_arg, start_args_by}
use Rattle.gs_tables.specs.declared.row.StartArg.{StartArg}
use Rattle.gs_tables.proofs.Amounts.{get_there, starts_next, starts_end}
use Rattle.gs_tables.proofs.Keeping.{with_nothing}
use Rattle.gs_tables.proofs.starting.args_of.Goals as goal

pub loop-i-preserved : goal.loop-i-preserved
loop-i-preserved c =
    let i = c.loop-i.i in
    let row = c.args.row.now in
    let ps = params_at c.args.idl.now.ops row.op in
    let rows = c.args.rows.now in
    let read = c.items-reads.ensures in
    let kept = c.items-kept.ensures in
    let called = c.items-called.ensures in
    let end = c.min-i-end.ensures in
    let first = c.min.ensures in
    let below = c.loop-i-test.true in
    let lr = ap length read in
    let lk = ap length kept in
    let lc = ap length called in
    let a : slice_get row.reads i ≡ Some c.index-reads-i.result = ap (λ (l : List (Option Version)). slice_get l i) (sym read) ∙ slice_get_read c.items-reads.result.now (length c.items-reads.result.now) i c.index-reads-i.result refl (omega arith) c.index-reads-i.is in
    let b : slice_get row.kept i ≡ Some (get_or c.items-kept.result.now i 0) = ap (λ (l : List ℕ). slice_get l i) (sym kept) ∙ get_there c.items-kept.result.now i 0 (omega arith) in
    let d : slice_get row.called i ≡ Some c.index-called-i.result = ap (λ (l : List CallArg). slice_get l i) (sym called) ∙ slice_get_read c.items-called.result.now (length c.items-called.result.now) i c.index-called-i.result refl (omega arith) c.index-called-i.is in
    let next = starts_next rows i ps row.reads row.kept row.called c.index-reads-i.result (get_or c.items-kept.result.now i 0) c.index-called-i.result a b d in
    let at : suc i ≡ i + 1 = omega arith in
    let arg : c.in_ok-start_arg.field-0 ≡ start_arg rows c.index-reads-i.result (get_or c.items-kept.result.now i 0) (both_at ps i) c.index-called-i.result = c.in_ok-start_arg.ensures ∙ ap (λ t. start_arg rows c.index-reads-i.result (get_or c.items-kept.result.now i 0) t c.index-called-i.result) c.is_both-both.ensures in
    let rest = λ (k : ℕ). start_args_by rows (drop k ps) (drop k row.reads) (drop k row.kept) (drop k row.called) in
    ap (λ (l : List StartArg). l ++ rest (i + 1)) c.in_ok-push.ensures.ok
    ∙ ap (λ (k : ℕ). (c.loop-i.args ++ c.in_ok-start_arg.field-0 ∷ []) ++ rest k) (sym at)
    ∙ append_assoc c.loop-i.args (c.in_ok-start_arg.field-0 ∷ []) (rest (suc i))
    ∙ ap (λ (x : StartArg). c.loop-i.args ++ x ∷ rest (suc i)) arg
    ∙ ap (λ (l : List StartArg). c.loop-i.args ++ l) (sym next)
    ∙ c.loop-i.invariant

pub returns : goal.returns
returns c =
    let row = c.args.row.now in
    let ps = params_at c.args.idl.now.ops row.op in
    let lr = ap length c.items-reads.ensures in
    let lk = ap length c.items-kept.ensures in
    let lc = ap length c.items-called.ensures in
    let end = c.min-i-end.ensures in
    let first = c.min.ensures in
    let none = starts_end c.args.rows.now c.loop-i.i ps row.reads row.kept row.called (omega (arith, c.loop-i-test.false)) in
    sym (with_nothing c.loop-i.args) ∙ ap (λ (l : List StartArg). c.loop-i.args ++ l) (sym none) ∙ c.loop-i.invariant
