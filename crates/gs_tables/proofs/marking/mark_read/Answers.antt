use Rattle.std.proofs.Common.{sym, subst, ◌∷◌, ◌++◌, [], ℕ, List}
use Rattle.std.proofs.lemmas.Result.{on_ok_weaker}
use Rattle.gs_types.specs.declared.action.Action.{Action}
use Rattle.gs_types.specs.declared.action.Action.TheVariants as made
use Rattle.gs_graph.specs.Graph.{actions_in}
use Rattle.gs_names.specs.Table.{names_in}
use Rattle.gs_talk.specs.Actions.{Read}
use Rattle.gs_tables.specs.Marks.{AreMade}
use Rattle.gs_tables.proofs.Numbering.{made_stay, made_then}
use Rattle.gs_tables.proofs.marking.mark_read.Goals as goal

pub returns-clause-made : goal.returns-clause-made
returns-clause-made c = λ acts are.
    let e = c.in_ok-name.ensures in
    let new = names_in c.number.new.table in
    let mades = actions_in c.args.graph.now in
    let kept = subst (λ (l : List (List ℕ)). AreMade l mades acts) (sym e.names) (made_stay (c.args.name.now ∷ []) (names_in c.args.names.now) mades acts are) in
    let all = made_then new mades acts (made.Read c.in_ok-name.name) (Read c.args.name.now) kept e.number.0 in
    on_ok_weaker c.note.result (λ done. subst (λ (l : List Action). AreMade new l (acts ++ Read c.args.name.now ∷ [])) (sym done) all) c.note.ensures.ok
