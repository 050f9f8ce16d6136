use Rattle.std.proofs.Common.{◌≡◌, ◌∙◌, refl, sym, ap, subst, ◌∷◌, ◌++◌, [], ℕ, List}
use Rattle.std.proofs.lemmas.Result.{on_ok_weaker}
use Rattle.gs_idl.specs.Interface.{params_at, reads_file, writes_file}
use Rattle.gs_types.specs.declared.action.Action.{Action}
use Rattle.gs_types.specs.declared.action.Action.TheVariants as made
use Rattle.gs_graph.specs.Graph.{actions_in}
use Rattle.gs_names.specs.Table.{names_in}
use Rattle.gs_talk.specs.Actions.{Act, Call, names_where}
use Rattle.gs_tables.specs.Marks.{with_names, AreNumbers, AreMade}
use Rattle.gs_tables.proofs.Numbering.{with_both, numbers_stay, made_stay, made_then}
use Rattle.gs_tables.proofs.marking.mark_call.Goals as goal

pub returns-clause-names : goal.returns-clause-names
returns-clause-names c =
    let ps = params_at c.args.idl.now.ops c.args.op in
    let read = names_where reads_file ps c.args.args.now in
    let written = names_where writes_file ps c.args.args.now in
    on_ok_weaker c.note.result (λ done. c.in_ok-writes.ensures.names ∙ ap (λ (l : List (List ℕ)). with_names l written) c.in_ok-reads.ensures.names ∙ with_both read (names_in c.args.names.now) written) c.note.ensures.ok

pub returns-clause-made : goal.returns-clause-made
returns-clause-made c = λ acts are.
    let ps = params_at c.args.idl.now.ops c.args.op in
    let read = names_where reads_file ps c.args.args.now in
    let written = names_where writes_file ps c.args.args.now in
    let old = names_in c.args.names.now in
    let first = names_in c.number_all.new.table in
    let last = names_in c.number_all-2.new.table in
    let e = c.in_ok-reads.ensures in
    let f = c.in_ok-writes.ensures in
    let numbers : AreNumbers last c.in_ok-reads.reads read = subst (λ (l : List (List ℕ)). AreNumbers l c.in_ok-reads.reads read) (sym f.names) (numbers_stay written first c.in_ok-reads.reads read e.numbers) in
    let mades = actions_in c.args.graph.now in
    let kept : AreMade last mades acts = subst (λ (l : List (List ℕ)). AreMade l mades acts) (sym f.names) (made_stay written first mades acts (subst (λ (l : List (List ℕ)). AreMade l mades acts) (sym e.names) (made_stay read old mades acts are))) in
    let a : Action = made.Call c.args.n c.args.op c.in_ok-reads.reads c.in_ok-writes.writes in
    let all = made_then last mades acts a (Call c.args.n c.args.op read written) kept (refl, refl, numbers, f.numbers) in
    on_ok_weaker c.note.result (λ done. subst (λ (l : List Action). AreMade last l (acts ++ Call c.args.n c.args.op read written ∷ [])) (sym done) all) c.note.ensures.ok
