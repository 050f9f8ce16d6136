-- What an operation breaks, whatever follows it.
use Rattle.std.proofs.Common.{◌≡◌, ◌≢◌, ℕ, zero, suc, ◌+◌, ◌<◌, ◌≤◌, true, List, [], ◌∷◌, ◌++◌, length, take, Some, refl, sym, ap, subst, ◌∙◌, arith, append_assoc, length-append, inl, inr, ◌⊎◌}
use Rattle.std.specs.Prelude.{slice_get}
use Rattle.gs_idl.specs.Interface.{Param, Signature, Interface}
use Rattle.gs_idl.specs.Word.{is_keyword}
use Rattle.gs_idl.specs.Grammar.{op_signs, ops_signs, name_place, dir_place, Breaks, many_ops, many_params, op_twice, param_twice, reserved, combination}
use Rattle.gs_idl.specs.declared.idl.Dir.TheVariants.{Both}
use Rattle.gs_idl.specs.declared.idl.ParamKind.TheVariants.{File}
use Rattle.gs_idl.specs.declared.token.IdlKind.{IdlKind}
use Rattle.gs_idl.specs.declared.token.IdlKind.TheVariants.{BadCombination, TooMany, Twice, Reserved}
use Rattle.gs_idl.proofs.Rules.{CleanOps, size_of, place_behind, LastBreaks, last_many, last_params, last_twice, last_param, last_word, last_clash}

-- one of the operations before, this one, or one behind it
pub data Where {A : Type 0} (xs : List A) (x y : A) (j : ℕ) : Type 0 where
  before : j < length xs → slice_get xs j ≡ Some y → Where xs x y j
  here : j ≡ length xs → x ≡ y → Where xs x y j
  behind : length xs < j → Where xs x y j

where_next : {A : Type 0} (z x y : A) (xs : List A) (j : ℕ) → Where xs x y j → Where (z ∷ xs) x y (suc j)
where_next z x y xs j (before lt e) = before (omega arith) e
where_next z x y xs j (here e f) = here (omega arith) f
where_next z x y xs j (behind lt) = behind (omega arith)

pub found : {A : Type 0} (xs ys : List A) (x y : A) (j : ℕ) → slice_get (xs ++ x ∷ ys) j ≡ Some y → Where xs x y j
found [] ys x y zero e = here refl (let f : x ≡ y = cc in f)
found [] ys x y (suc j) e = behind (omega arith)
found (z ∷ xs) ys x y zero e = before (omega arith) e
found (z ∷ xs) ys x y (suc j) e = where_next z x y xs j (found xs ys x y j e)

-- a list's front up to a place is no longer than its front up to a later one
signs_grow : (os : List Signature) (a b : ℕ) → a ≤ b → length (ops_signs (take a os)) ≤ length (ops_signs (take b os))
signs_grow [] zero zero le = omega arith
signs_grow [] zero (suc b) le = omega arith
signs_grow [] (suc a) zero le = absurd (omega arith)
signs_grow [] (suc a) (suc b) le = omega arith
signs_grow (o ∷ os) zero b le = omega arith
signs_grow (o ∷ os) (suc a) zero le = absurd (omega arith)
signs_grow (o ∷ os) (suc a) (suc b) le = omega (arith, signs_grow os a b (omega arith), length-append (op_signs o) (ops_signs (take a os)), length-append (op_signs o) (ops_signs (take b os)))

-- where the operation behind this one has its name
abbrev pub end_of : List Signature → Signature → ℕ
end_of os o = 4 + size_of (os ++ o ∷ [])

past : (i : Interface) (os rs : List Signature) (o : Signature) (j : ℕ) → i.ops ≡ os ++ o ∷ rs → length os < j → end_of os o ≤ name_place i.ops j
past i os rs o j is lt =
    let same : i.ops ≡ (os ++ o ∷ []) ++ rs = is ∙ sym (append_assoc os (o ∷ []) rs) in
    let at = ap (λ (qs : List Signature). name_place qs (length (os ++ o ∷ []))) same ∙ place_behind (os ++ o ∷ []) rs in
    omega (arith, at, signs_grow i.ops (length (os ++ o ∷ [])) j (omega (arith, length-append os (o ∷ []))))

place_here : (i : Interface) (os rs : List Signature) (o : Signature) (j : ℕ) → i.ops ≡ os ++ o ∷ rs → j ≡ length os → name_place i.ops j ≡ 4 + size_of os
place_here i os rs o j is e = ap (λ (qs : List Signature). name_place qs j) is ∙ ap (λ (n : ℕ). name_place (os ++ o ∷ rs) n) e ∙ place_behind os (o ∷ rs)

got : (i : Interface) (os rs : List Signature) (o p : Signature) (j : ℕ) → i.ops ≡ os ++ o ∷ rs → slice_get i.ops j ≡ Some p → Where os o p j
got i os rs o p j is g = found os rs o p j (sym (ap (λ (qs : List Signature). slice_get qs j) is) ∙ g)

many_front : (i : Interface) (k : ℕ) (os rs : List Signature) (o : Signature) → i.ops ≡ os ++ o ∷ rs → CleanOps os → k < end_of os o → k ≡ name_place i.ops 64 → (64 ≤ length os) ⊎ (length os < 64) → LastBreaks os o k TooMany
many_front i k os rs o is c lt e (inl many) = let few = c.few in let at : 64 ≡ length os = omega arith in last_many k many (e ∙ place_here i os rs o 64 is at)
many_front i k os rs o is c lt e (inr few) = absurd (omega (arith, past i os rs o 64 is few))

params_front : (i : Interface) (k j : ℕ) (os rs : List Signature) (o p : Signature) → i.ops ≡ os ++ o ∷ rs → CleanOps os → k < end_of os o → slice_get i.ops j ≡ Some p → 16 < length p.params → k ≡ dir_place i.ops j 16 → Where os o p j → LastBreaks os o k TooMany
params_front i k j os rs o p is c lt g h e (before l f) = absurd (let few = (c.each j p f).few in omega arith)
params_front i k j os rs o p is c lt g h e (here f same) = let at = place_here i os rs o j is f in last_params k (subst (λ (q : Signature). 16 < length q.params) (sym same) h) (omega arith)
params_front i k j os rs o p is c lt g h e (behind l) = absurd (omega (arith, past i os rs o j is l))

op_front : (i : Interface) (k j b : ℕ) (os rs : List Signature) (o p q : Signature) → i.ops ≡ os ++ o ∷ rs → CleanOps os → k < end_of os o → j < b → p.name ≡ q.name → k ≡ name_place i.ops b → Where os o p j → Where os o q b → LastBreaks os o k Twice
op_front i k j b os rs o p q is c lt l same e (before a f) (before d g) = absurd (c.apart j b p q f g l same)
op_front i k j b os rs o p q is c lt l same e (before a f) (here d g) = last_twice k j p f (same ∙ ap (λ (x : Signature). x.name) (sym g)) (e ∙ place_here i os rs o b is d)
op_front i k j b os rs o p q is c lt l same e (here a f) (before d g) = absurd (omega arith)
op_front i k j b os rs o p q is c lt l same e (here a f) (here d g) = absurd (omega arith)
op_front i k j b os rs o p q is c lt l same e (behind a) (before d g) = absurd (omega arith)
op_front i k j b os rs o p q is c lt l same e (behind a) (here d g) = absurd (omega arith)
op_front i k j b os rs o p q is c lt l same e w (behind d) = absurd (omega (arith, past i os rs o b is d))

param_front : (i : Interface) (k j a b : ℕ) (os rs : List Signature) (o r : Signature) (p q : Param) → i.ops ≡ os ++ o ∷ rs → CleanOps os → k < end_of os o → slice_get r.params a ≡ Some p → slice_get r.params b ≡ Some q → a < b → p.name ≡ q.name
    → k ≡ dir_place i.ops j b + 2 → Where os o r j → LastBreaks os o k Twice
param_front i k j a b os rs o r p q is c lt h m l same e (before d f) = absurd ((c.each j r f).apart a b p q h m l same)
param_front i k j a b os rs o r p q is c lt h m l same e (here d f) =
    let at = place_here i os rs o j is d in
    last_param k a b p q (subst (λ (x : Signature). slice_get x.params a ≡ Some p) (sym f) h) (subst (λ (x : Signature). slice_get x.params b ≡ Some q) (sym f) m) l same (omega arith)
param_front i k j a b os rs o r p q is c lt h m l same e (behind d) = absurd (omega (arith, past i os rs o j is d))

word_front : (i : Interface) (k j : ℕ) (os rs : List Signature) (o p : Signature) → i.ops ≡ os ++ o ∷ rs → CleanOps os → k < end_of os o → is_keyword p.name ≡ true → k ≡ name_place i.ops j → Where os o p j → LastBreaks os o k Reserved
word_front i k j os rs o p is c lt h e (before d f) = absurd (c.free j p f h)
word_front i k j os rs o p is c lt h e (here d f) = last_word k (subst (λ (x : Signature). is_keyword x.name ≡ true) (sym f) h) (e ∙ place_here i os rs o j is d)
word_front i k j os rs o p is c lt h e (behind d) = absurd (omega (arith, past i os rs o j is d))

clash_front : (i : Interface) (k j a : ℕ) (os rs : List Signature) (o r : Signature) (p : Param) → i.ops ≡ os ++ o ∷ rs → CleanOps os → k < end_of os o → slice_get r.params a ≡ Some p → p.dir ≡ Both → p.kind ≢ File → k ≡ dir_place i.ops j a + 1 → Where os o r j → LastBreaks os o k BadCombination
clash_front i k j a os rs o r p is c lt h d n e (before l f) = absurd ((c.each j r f).fit a p h d n)
clash_front i k j a os rs o r p is c lt h d n e (here l f) = let at = place_here i os rs o j is l in last_clash k a p (subst (λ (x : Signature). slice_get x.params a ≡ Some p) (sym f) h) d n (omega arith)
clash_front i k j a os rs o r p is c lt h d n e (behind l) = absurd (omega (arith, past i os rs o j is l))

at_least : (n : ℕ) → (64 ≤ n) ⊎ (n < 64)
at_least n = grind arith

-- what stands before the name of the operation behind this one, and breaks a rule, breaks it in this operation
pub front_breaks : (i : Interface) (k : ℕ) (kind : IdlKind) (os rs : List Signature) (o : Signature) → i.ops ≡ os ++ o ∷ rs → CleanOps os → k < end_of os o → Breaks i k kind → LastBreaks os o k kind
front_breaks i k kind os rs o is c lt (many_ops i' k' h e) = many_front i k os rs o is c lt e (at_least (length os))
front_breaks i k kind os rs o is c lt (many_params i' k' j p g h e) = params_front i k j os rs o p is c lt g h e (got i os rs o p j is g)
front_breaks i k kind os rs o is c lt (op_twice i' k' j b p q g h l same e) = op_front i k j b os rs o p q is c lt l same e (got i os rs o p j is g) (got i os rs o q b is h)
front_breaks i k kind os rs o is c lt (param_twice i' k' j a b r p q g h m l same e) = param_front i k j a b os rs o r p q is c lt h m l same e (got i os rs o r j is g)
front_breaks i k kind os rs o is c lt (reserved i' k' j p g h e) = word_front i k j os rs o p is c lt h e (got i os rs o p j is g)
front_breaks i k kind os rs o is c lt (combination i' k' j a r p g h d n e) = clash_front i k j a os rs o r p is c lt h d n e (got i os rs o r j is g)
