use Rattle.std.proofs.Common.{◌≡◌, ◌∙◌, sym, refl, ◌↔◌, IsTrue, Bool, ◌==◌, [], ◌∷◌, List, length, map, arith}
use Rattle.std.proofs.lemmas.Bool.{eqb-true}
use Rattle.gs_idl.specs.View.{op_of}
use Rattle.gs_idl.specs.declared.idl.Operation.{Operation}
use Rattle.gs_idl.proofs.reader.are_none.Goals as goal

empty_iff : (ops : List Operation) (b : Bool) → b ≡ (length ops == 0) → IsTrue b ↔ (map op_of ops ≡ [])
empty_iff [] b e = (λ _. let r : map op_of [] ≡ [] = refl in r, λ _. e)
empty_iff (o ∷ ops) b e = (λ t. absurd (let f : length (o ∷ ops) ≡ 0 = eqb-true (length (o ∷ ops)) 0 (sym e ∙ t) in omega arith), λ h. absurd cc)

pub returns : goal.returns
returns c = empty_iff c.args.ops.now c.is_empty.result c.is_empty.ensures
