use Rattle.std.proofs.Common.{◌≡◌, ◌∙◌, sym, ap, ◌<◌, ◌≤◌, ◌+◌, ◌∷◌, ◌++◌, [], ℕ, List, Option, suc, length, take, arith}
use Rattle.std.specs.Prelude.{min}
use Rattle.gs_idl.specs.Interface.{params_at}
use Rattle.gs_types.specs.declared.note.Version.{Version}
use Rattle.gs_names.specs.Table.{writes_in}
use Rattle.gs_names.specs.Writes.{latest}
use Rattle.gs_looks.specs.Judgement.{read_at_with, read_with, reads_at}
use Rattle.gs_looks.proofs.Placing.{item_there}
use Rattle.gs_tables.proofs.Calls.{reads_next, reads_all}
use Rattle.gs_tables.proofs.places.reads_of.Goals as goal

pub loop-i-preserved : goal.loop-i-preserved
loop-i-preserved c =
    let version : List ℕ → Version = λ x. latest x (writes_in c.args.table.now) in
    let ps = params_at c.args.idl.now.ops c.args.op in
    let args = c.args.args.now in
    let i = c.loop-i.i in
    let count = c.place_count-i-end.ensures.count in
    let below = c.loop-i-test.true in
    let there = item_there args i c.index-args-i.result (omega arith) c.index-args-i.is in
    let next = reads_next version i ps args c.index-args-i.result (omega arith) there in
    let one : suc i ≡ i + 1 = omega arith in
    let item : c.read_at.result ≡ read_at_with version (reads_at ps i) c.index-args-i.result = c.read_at.ensures ∙ ap (λ b. read_at_with version b c.index-args-i.result) c.reads_at.ensures in
    c.in_ok-push.ensures.ok ∙ ap (λ (l : List (Option Version)). l ++ c.read_at.result ∷ []) c.loop-i.invariant
    ∙ ap (λ (v : Option Version). read_with version (take i ps) (take i args) ++ v ∷ []) item
    ∙ sym next ∙ ap (λ (k : ℕ). read_with version (take k ps) (take k args)) one

pub returns : goal.returns
returns c =
    let count = c.place_count-i-end.ensures.count in
    c.loop-i.invariant ∙ reads_all (λ x. latest x (writes_in c.args.table.now)) c.loop-i.i (params_at c.args.idl.now.ops c.args.op) c.args.args.now (omega (arith, c.loop-i-test.false))
