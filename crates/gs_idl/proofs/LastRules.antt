-- Where the operation behind those that break no rule breaks one.
use Rattle.std.proofs.Common.{◌≡◌, ◌≢◌, ℕ, ◌+◌, ◌*◌, ◌<◌, true, List, [], ◌∷◌, ◌++◌, length, Some, sym, ap, subst, ◌∙◌, arith, length-append, inl, inr, ◌⊎◌}
use Rattle.std.specs.Prelude.{slice_get}
use Rattle.gs_idl.specs.Interface.{Param, Signature, Interface}
use Rattle.gs_idl.specs.Word.{is_keyword}
use Rattle.gs_idl.specs.Grammar.{name_place, dir_place, Breaks, many_ops, many_params, op_twice, param_twice, reserved, combination}
use Rattle.gs_idl.specs.declared.idl.Dir.TheVariants.{Both}
use Rattle.gs_idl.specs.declared.idl.ParamKind.TheVariants.{File}
use Rattle.gs_idl.specs.declared.token.IdlKind.{IdlKind}
use Rattle.gs_idl.specs.declared.token.IdlKind.TheVariants.{BadCombination, TooMany, Twice, Reserved}
use Rattle.gs_idl.proofs.Lists.{get_snoc}
use Rattle.gs_idl.proofs.Rules.{CleanParams, CleanOps, NameFits, size_of, place_behind, LastBreaks, last_many, last_params, last_twice, last_param, last_word, last_clash}

-- the place of the last operation
last_place : (i : Interface) (os : List Signature) (o : Signature) (j : ℕ) → i.ops ≡ os ++ o ∷ [] → j ≡ length os → name_place i.ops j ≡ 4 + size_of os
last_place i os o j is e = ap (λ (qs : List Signature). name_place qs j) is ∙ ap (λ (n : ℕ). name_place (os ++ o ∷ []) n) e ∙ place_behind os (o ∷ [])

got : (i : Interface) (os : List Signature) (o p : Signature) (j : ℕ) → i.ops ≡ os ++ o ∷ [] → slice_get i.ops j ≡ Some p → ((j < length os) × (slice_get os j ≡ Some p)) ⊎ ((j ≡ length os) × (o ≡ p))
got i os o p j is g = get_snoc os o p j (sym (ap (λ (qs : List Signature). slice_get qs j) is) ∙ g)

many_last : (i : Interface) (k : ℕ) (os : List Signature) (o : Signature) → i.ops ≡ os ++ o ∷ [] → CleanOps os → 64 < length i.ops → k ≡ name_place i.ops 64 → LastBreaks os o k TooMany
many_last i k os o is c h e =
    let more : length i.ops ≡ length os + 1 = ap length is ∙ length-append os (o ∷ []) in
    let few = c.few in
    let at : 64 ≡ length os = omega arith in
    last_many k (omega arith) (e ∙ last_place i os o 64 is at)

params_last : (i : Interface) (k j : ℕ) (os : List Signature) (o p : Signature) → i.ops ≡ os ++ o ∷ [] → CleanOps os → slice_get i.ops j ≡ Some p → 16 < length p.params → k ≡ dir_place i.ops j 16 → LastBreaks os o k TooMany
params_last i k j os o p is c g h e =
    elim (got i os o p j is g) [
      | inl u ↦ absurd (let few = (c.each j p u.1).few in omega arith)
      | inr u ↦ let at = last_place i os o j is u.0 in last_params k (subst (λ (q : Signature). 16 < length q.params) (sym u.1) h) (omega arith)
    ]

op_last : (i : Interface) (k j b : ℕ) (os : List Signature) (o p q : Signature) → i.ops ≡ os ++ o ∷ [] → CleanOps os → slice_get i.ops j ≡ Some p → slice_get i.ops b ≡ Some q → j < b → p.name ≡ q.name → k ≡ name_place i.ops b → LastBreaks os o k Twice
op_last i k j b os o p q is c g h lt same e =
    elim (got i os o q b is h) [
      | inl v ↦ elim (got i os o p j is g) [ inl u ↦ absurd (c.apart j b p q u.1 v.1 lt same) | inr u ↦ absurd (omega (arith, u.0, v.0)) ]
      | inr v ↦ elim (got i os o p j is g) [ inl u ↦ last_twice k j p u.1 (same ∙ ap (λ (x : Signature). x.name) (sym v.1)) (e ∙ last_place i os o b is v.0) | inr u ↦ absurd (omega (arith, u.0, v.0)) ]
    ]

param_last : (i : Interface) (k j a b : ℕ) (os : List Signature) (o r : Signature) (p q : Param) → i.ops ≡ os ++ o ∷ [] → CleanOps os → slice_get i.ops j ≡ Some r → slice_get r.params a ≡ Some p → slice_get r.params b ≡ Some q → a < b
    → p.name ≡ q.name → k ≡ dir_place i.ops j b + 2 → LastBreaks os o k Twice
param_last i k j a b os o r p q is c g h m lt same e =
    elim (got i os o r j is g) [
      | inl u ↦ absurd ((c.each j r u.1).apart a b p q h m lt same)
      | inr u ↦ let at = last_place i os o j is u.0 in
          last_param k a b p q (subst (λ (x : Signature). slice_get x.params a ≡ Some p) (sym u.1) h) (subst (λ (x : Signature). slice_get x.params b ≡ Some q) (sym u.1) m) lt same (omega arith)
    ]

word_last : (i : Interface) (k j : ℕ) (os : List Signature) (o p : Signature) → i.ops ≡ os ++ o ∷ [] → CleanOps os → slice_get i.ops j ≡ Some p → is_keyword p.name ≡ true → k ≡ name_place i.ops j → LastBreaks os o k Reserved
word_last i k j os o p is c g h e =
    elim (got i os o p j is g) [
      | inl u ↦ absurd (c.free j p u.1 h)
      | inr u ↦ last_word k (subst (λ (x : Signature). is_keyword x.name ≡ true) (sym u.1) h) (e ∙ last_place i os o j is u.0)
    ]

clash_last : (i : Interface) (k j a : ℕ) (os : List Signature) (o r : Signature) (p : Param) → i.ops ≡ os ++ o ∷ [] → CleanOps os → slice_get i.ops j ≡ Some r → slice_get r.params a ≡ Some p → p.dir ≡ Both → p.kind ≢ File
    → k ≡ dir_place i.ops j a + 1 → LastBreaks os o k BadCombination
clash_last i k j a os o r p is c g h d n e =
    elim (got i os o r j is g) [
      | inl u ↦ absurd ((c.each j r u.1).fit a p h d n)
      | inr u ↦ let at = last_place i os o j is u.0 in last_clash k a p (subst (λ (x : Signature). slice_get x.params a ≡ Some p) (sym u.1) h) d n (omega arith)
    ]

pub last_breaks : (i : Interface) (k : ℕ) (kind : IdlKind) (os : List Signature) (o : Signature) → i.ops ≡ os ++ o ∷ [] → CleanOps os → Breaks i k kind → LastBreaks os o k kind
last_breaks i k kind os o is c (many_ops i' k' h e) = many_last i k os o is c h e
last_breaks i k kind os o is c (many_params i' k' j p g h e) = params_last i k j os o p is c g h e
last_breaks i k kind os o is c (op_twice i' k' j b p q g h lt same e) = op_last i k j b os o p q is c g h lt same e
last_breaks i k kind os o is c (param_twice i' k' j a b r p q g h m lt same e) = param_last i k j a b os o r p q is c g h m lt same e
last_breaks i k kind os o is c (reserved i' k' j p g h e) = word_last i k j os o p is c g h e
last_breaks i k kind os o is c (combination i' k' j a r p g h d n e) = clash_last i k j a os o r p is c g h d n e

-- ---- what is read of the last operation breaks no rule

-- nothing is read of it but `void`
pub none_read : (os : List Signature) (o : Signature) (k : ℕ) (kind : IdlKind) → LastBreaks os o k kind → k < 4 + size_of os → ⊥
none_read os o k kind (last_many k' h e) lt = omega arith
none_read os o k kind (last_params k' h e) lt = omega arith
none_read os o k kind (last_twice k' j p g same e) lt = omega arith
none_read os o k kind (last_param k' a b p q g h m same e) lt = omega arith
none_read os o k kind (last_word k' h e) lt = omega arith
none_read os o k kind (last_clash k' a p g d n e) lt = omega arith

-- its name is read
pub name_read : (os : List Signature) (o : Signature) (k : ℕ) (kind : IdlKind) → NameFits os o.name → LastBreaks os o k kind → k < 6 + size_of os → ⊥
name_read os o k kind f (last_many k' h e) lt = let few = f.few in omega arith
name_read os o k kind f (last_params k' h e) lt = omega arith
name_read os o k kind f (last_twice k' j p g same e) lt = f.apart j p g same
name_read os o k kind f (last_param k' a b p q g h m same e) lt = omega arith
name_read os o k kind f (last_word k' h e) lt = f.free h
name_read os o k kind f (last_clash k' a p g d n e) lt = omega arith

-- all its parameters are read
pub params_read : (os : List Signature) (o : Signature) (k : ℕ) (kind : IdlKind) → NameFits os o.name → CleanParams o.params → LastBreaks os o k kind → ⊥
params_read os o k kind f c (last_many k' h e) = let few = f.few in omega arith
params_read os o k kind f c (last_params k' h e) = let few = c.few in omega arith
params_read os o k kind f c (last_twice k' j p g same e) = f.apart j p g same
params_read os o k kind f c (last_param k' a b p q g h m same e) = c.apart a b p q g h m same
params_read os o k kind f c (last_word k' h e) = f.free h
params_read os o k kind f c (last_clash k' a p g d n e) = c.fit a p g d n

behind_apart : (ps : List Param) (r p q : Param) (a b : ℕ) → CleanParams ps → slice_get (ps ++ r ∷ []) a ≡ Some p → slice_get (ps ++ r ∷ []) b ≡ Some q → a < b → p.name ≡ q.name → b < length ps → ⊥
behind_apart ps r p q a b c g h m same lt =
    elim (get_snoc ps r q b h) [
      | inl v ↦ elim (get_snoc ps r p a g) [ inl u ↦ c.apart a b p q u.1 v.1 m same | inr u ↦ omega (arith, u.0) ]
      | inr v ↦ omega (arith, v.0)
    ]

-- these parameters are read, and of the next one the direction or the kind at most
pub some_read : (os : List Signature) (o : Signature) (k : ℕ) (kind : IdlKind) (ps : List Param) (r : Param) → NameFits os o.name → CleanParams ps → o.params ≡ ps ++ r ∷ [] → (r.dir ≡ Both → r.kind ≢ File → ⊥)
    → (length ps < 16) ⊎ (k < 6 + size_of os + 4 * length ps) → k < 8 + size_of os + 4 * length ps → LastBreaks os o k kind → ⊥
some_read os o k kind ps r f c is fit room lt (last_many k' h e) = let few = f.few in omega arith
some_read os o k kind ps r f c is fit room lt (last_params k' h e) =
    let size : length o.params ≡ length ps + 1 = ap length is ∙ length-append ps (r ∷ []) in
    let few = c.few in
    elim room [ inl u ↦ omega arith | inr u ↦ omega arith ]
some_read os o k kind ps r f c is fit room lt (last_twice k' j p g same e) = f.apart j p g same
some_read os o k kind ps r f c is fit room lt (last_param k' a b p q g h m same e) =
    behind_apart ps r p q a b c (subst (λ (x : List Param). slice_get x a ≡ Some p) is g) (subst (λ (x : List Param). slice_get x b ≡ Some q) is h) m same (omega arith)
some_read os o k kind ps r f c is fit room lt (last_word k' h e) = f.free h
some_read os o k kind ps r f c is fit room lt (last_clash k' a p g d n e) =
    elim (get_snoc ps r p a (subst (λ (x : List Param). slice_get x a ≡ Some p) is g)) [
      | inl u ↦ c.fit a p u.1 d n
      | inr u ↦ fit (ap (λ (x : Param). x.dir) u.1 ∙ d) (λ same. n (sym (ap (λ (x : Param). x.kind) u.1) ∙ same))
    ]
