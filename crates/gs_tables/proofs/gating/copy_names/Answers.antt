use Rattle.std.proofs.Common.{◌≡◌, ◌++◌, ◌∷◌, ◌∙◌, [], ℕ, zero, suc, ◌+◌, sym, ap, List, take, Some, arith}
use Rattle.std.specs.List.{slice_get}
use Rattle.gs_names.specs.Table.{names_in}
use Rattle.gs_tables.proofs.gating.copy_names.Goals as goal

some_name : (x y : List ℕ) → Some y ≡ Some x → y ≡ x
some_name x y e = cc

take_next : (xs : List (List ℕ)) (i : ℕ) (x : List ℕ) → slice_get xs i ≡ Some x → take (suc i) xs ≡ take i xs ++ x ∷ []
take_next [] i x e = absurd cc
take_next (y ∷ xs) zero x e = ap (λ (z : List ℕ). z ∷ []) (some_name x y e)
take_next (y ∷ xs) (suc i) x e = ap (λ (l : List (List ℕ)). y ∷ l) (take_next xs i x e)

pub loop-i-preserved : goal.loop-i-preserved
loop-i-preserved c =
    let xs = names_in c.args.table.now in
    let i = c.loop-i.i in
    let at : slice_get xs i ≡ Some c.copy.result = c.name.ensures ∙ ap Some (sym c.copy.ensures) in
    let more : suc i ≡ i + 1 = omega arith in
    c.in_ok-push.ensures.ok ∙ ap (λ (l : List (List ℕ)). l ++ c.copy.result ∷ []) c.loop-i.invariant ∙ sym (take_next xs i c.copy.result at) ∙ ap (λ (m : ℕ). take m xs) more
