use Rattle.std.proofs.Common.{◌≡◌, sym, ap, ◌∙◌, ◌<◌, ◌+◌, ℕ, List, suc, length, arith}
use Rattle.gs_idl.specs.Interface.{params_at}
use Rattle.gs_types.specs.declared.note.Version.{Version}
use Rattle.gs_names.specs.Table.{writes_in}
use Rattle.gs_names.specs.Writes.{latest}
use Rattle.gs_looks.specs.Looked.{looks_in}
use Rattle.gs_looks.specs.Judgement.{judged_place, or_next, reads_at}
use Rattle.gs_looks.specs.declared.judging.Judged.TheVariants.{Fine}
use Rattle.gs_looks.proofs.Placing.{from, next_place, at_end, stops_here, item_there}
use Rattle.gs_looks.proofs.judging.judge_all.Goals as goal

pub returns-in_default : goal.returns-in_default
returns-in_default c =
    let version : List ℕ → Version = λ x. latest x (writes_in c.args.table.now) in
    let looks = looks_in c.args.looks.now in
    let ps = params_at c.args.idl.now.ops c.args.op in
    let lt : c.loop-i.i < length c.args.args.now = c.loop-i-test.true in
    let there = item_there c.args.args.now c.loop-i.i c.index-args-i.result lt c.index-args-i.is in
    let next = next_place version looks c.args.mains.now ps c.args.args.now c.loop-i.i c.index-args-i.result there in
    let place : c.judge_place.result ≡ judged_place version looks c.args.mains.now (reads_at ps c.loop-i.i) c.index-args-i.result = c.judge_place.ensures ∙ ap (λ b. judged_place version looks c.args.mains.now b c.index-args-i.result) c.reads_at.ensures in
    let rest = from version looks c.args.mains.now ps c.args.args.now (suc c.loop-i.i) in
    sym (c.loop-i.invariant ∙ next ∙ ap (λ j. or_next j rest) (sym place) ∙ stops_here c.judge_place.result rest c.in_default.not-Fine)

pub loop-i-preserved : goal.loop-i-preserved
loop-i-preserved c =
    let version : List ℕ → Version = λ x. latest x (writes_in c.args.table.now) in
    let looks = looks_in c.args.looks.now in
    let ps = params_at c.args.idl.now.ops c.args.op in
    let lt : c.loop-i.i < length c.args.args.now = c.loop-i-test.true in
    let there = item_there c.args.args.now c.loop-i.i c.index-args-i.result lt c.index-args-i.is in
    let next = next_place version looks c.args.mains.now ps c.args.args.now c.loop-i.i c.index-args-i.result there in
    let place : c.judge_place.result ≡ judged_place version looks c.args.mains.now (reads_at ps c.loop-i.i) c.index-args-i.result = c.judge_place.ensures ∙ ap (λ b. judged_place version looks c.args.mains.now b c.index-args-i.result) c.reads_at.ensures in
    let fine : judged_place version looks c.args.mains.now (reads_at ps c.loop-i.i) c.index-args-i.result ≡ Fine = sym place ∙ c.in-Fine.is in
    let rest = from version looks c.args.mains.now ps c.args.args.now (suc c.loop-i.i) in
    let count : suc c.loop-i.i ≡ c.loop-i.i + 1 = omega arith in
    c.loop-i.invariant ∙ next ∙ ap (λ j. or_next j rest) fine ∙ ap (λ k. from version looks c.args.mains.now ps c.args.args.now k) count

pub returns : goal.returns
returns c = sym (c.loop-i.invariant ∙ at_end (λ x. latest x (writes_in c.args.table.now)) (looks_in c.args.looks.now) c.args.mains.now (params_at c.args.idl.now.ops c.args.op) c.args.args.now c.loop-i.i (omega arith))
