use Rattle.std.proofs.Common.{◌++◌, ◌∷◌, [], List, ℕ, sym, map, subst}
use Rattle.std.proofs.lemmas.List.{map-append}
use Rattle.gs_types.specs.declared.note.FinalNote.{FinalNote}
use Rattle.gs_names.specs.Writes.{Write}
use Rattle.gs_tables.specs.Finals.{AreTold}
use Rattle.gs_tables.proofs.Leaving.{told_then}
use Rattle.gs_tables.proofs.tables.Tables.finals.Goals as goal

pub loop-name-preserved : goal.loop-name-preserved
loop-name-preserved c =
    let t = c.args.self.now in
    let name_of : Write → List ℕ = λ w. w.0 in
    let entry : Write = (c.in-Some.name, c.in-Some.field-0-1) in
    let told = told_then t (map name_of c.loop-name.yielded) c.loop-name.finals c.in-Some.name c.final_note.result c.loop-name.invariant c.final_note.ensures in
    let names = sym (map-append name_of c.loop-name.yielded (entry ∷ [])) in
    subst (λ (fs : List FinalNote). AreTold t (map name_of (c.loop-name.yielded ++ entry ∷ [])) fs) (sym c.in_ok-push.ensures.ok)
    (subst (λ (xs : List (List ℕ)). AreTold t xs (c.loop-name.finals ++ c.final_note.result ∷ [])) names told)
