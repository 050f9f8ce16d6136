use Rattle.std.proofs.Common.{refl, sym, subst, ◌∷◌, ◌++◌, [], List}
use Rattle.std.proofs.lemmas.Result.{on_ok_weaker}
use Rattle.gs_types.specs.declared.action.Action.{Action}
use Rattle.gs_types.specs.declared.action.Action.TheVariants as made
use Rattle.gs_graph.specs.Graph.{actions_in}
use Rattle.gs_talk.specs.Actions.{Use}
use Rattle.gs_tables.specs.Marks.{AreMade}
use Rattle.gs_tables.proofs.Numbering.{made_then}
use Rattle.gs_tables.proofs.marking.mark_use.Goals as goal

pub returns-clause-made : goal.returns-clause-made
returns-clause-made c = λ names acts are.
    let all = made_then names (actions_in c.args.graph.now) acts (made.Use c.args.n c.args.place) (Use c.args.n c.args.place) are (refl, refl) in
    on_ok_weaker c.note.result (λ done. subst (λ (l : List Action). AreMade names l (acts ++ Use c.args.n c.args.place ∷ [])) (sym done) all) c.note.ensures.ok
