-- Operations that break no rule, and what the operation behind them may break.
use Rattle.std.proofs.Common.{◌≡◌, ◌≢◌, ℕ, ◌+◌, ◌*◌, ◌<◌, ◌≤◌, true, List, [], ◌∷◌, ◌++◌, length, Some, refl, sym, ap, subst, ◌∙◌, arith, length-append, inl, inr}
use Rattle.std.specs.Prelude.{slice_get}
use Rattle.std.proofs.lemmas.List.{take_at}
use Rattle.gs_idl.specs.Interface.{Param, Signature, Interface}
use Rattle.gs_idl.specs.Word.{is_keyword}
use Rattle.gs_idl.specs.Grammar.{ops_signs, name_place, many_ops, many_params, op_twice, param_twice, reserved, combination, IsSound}
use Rattle.gs_idl.specs.declared.idl.Dir.TheVariants.{Both}
use Rattle.gs_idl.specs.declared.idl.ParamKind.TheVariants.{File}
use Rattle.gs_idl.specs.declared.token.IdlKind.{IdlKind}
use Rattle.gs_idl.specs.declared.token.IdlKind.TheVariants.{BadCombination, TooMany, Twice, Reserved}
use Rattle.gs_idl.proofs.Lists.{get_snoc}

-- ---- what breaks no rule

pub record CleanParams (ps : List Param) : Type 0 where
  pub few : length ps ≤ 16
  pub apart : (a b : ℕ) (p q : Param) → slice_get ps a ≡ Some p → slice_get ps b ≡ Some q → a < b → p.name ≡ q.name → ⊥
  pub fit : (a : ℕ) (p : Param) → slice_get ps a ≡ Some p → p.dir ≡ Both → p.kind ≢ File → ⊥

pub record CleanOps (os : List Signature) : Type 0 where
  pub few : length os ≤ 64
  pub apart : (a b : ℕ) (o p : Signature) → slice_get os a ≡ Some o → slice_get os b ≡ Some p → a < b → o.name ≡ p.name → ⊥
  pub free : (j : ℕ) (o : Signature) → slice_get os j ≡ Some o → is_keyword o.name ≡ true → ⊥
  pub each : (j : ℕ) (o : Signature) → slice_get os j ≡ Some o → CleanParams o.params

-- a name that an operation behind these may have
pub record NameFits (os : List Signature) (f : List ℕ) : Type 0 where
  pub few : length os < 64
  pub apart : (j : ℕ) (o : Signature) → slice_get os j ≡ Some o → o.name ≡ f → ⊥
  pub free : is_keyword f ≡ true → ⊥

pub clean_none : CleanOps []
clean_none = record { few = omega arith; apart = λ a b o p e. absurd cc; free = λ j o e. absurd cc; each = λ j o e. absurd cc }

pub clean_no_params : CleanParams []
clean_no_params = record { few = omega arith; apart = λ a b p q e. absurd cc; fit = λ a p e. absurd cc }

pub clean_sound : (i : Interface) → CleanOps i.ops → IsSound i
clean_sound i c k kind (many_ops i' k' h e) = omega (arith, c.few)
clean_sound i c k kind (many_params i' k' j o g h e) = let f = (c.each j o g).few in omega arith
clean_sound i c k kind (op_twice i' k' j b o p g h lt same e) = c.apart j b o p g h lt same
clean_sound i c k kind (param_twice i' k' j a b o p q g h m lt same e) = (c.each j o g).apart a b p q h m lt same
clean_sound i c k kind (reserved i' k' j o g h e) = c.free j o g h
clean_sound i c k kind (combination i' k' j a o p g h d n e) = (c.each j o g).fit a p h d n

-- ---- one more

params_apart_more : (ps : List Param) (p : Param) → CleanParams ps → ((j : ℕ) (q : Param) → slice_get ps j ≡ Some q → q.name ≡ p.name → ⊥)
    → (a b : ℕ) (q r : Param) → slice_get (ps ++ p ∷ []) a ≡ Some q → slice_get (ps ++ p ∷ []) b ≡ Some r → a < b → q.name ≡ r.name → ⊥
params_apart_more ps p c new a b q r g h lt same =
    elim (get_snoc ps p r b h) [
      | inl v ↦ elim (get_snoc ps p q a g) [ inl u ↦ c.apart a b q r u.1 v.1 lt same | inr u ↦ omega (arith, u.0, v.0) ]
      | inr v ↦ elim (get_snoc ps p q a g) [ inl u ↦ new a q u.1 (same ∙ ap (λ (x : Param). x.name) (sym v.1)) | inr u ↦ omega (arith, u.0, v.0) ]
    ]

pub params_more : (ps : List Param) (p : Param) → CleanParams ps → length ps < 16 → ((j : ℕ) (q : Param) → slice_get ps j ≡ Some q → q.name ≡ p.name → ⊥) → (p.dir ≡ Both → p.kind ≢ File → ⊥) → CleanParams (ps ++ p ∷ [])
params_more ps p c lt new fit = record {
  few = omega (arith, length-append ps (p ∷ []));
  apart = params_apart_more ps p c new;
  fit = λ a q g d n. elim (get_snoc ps p q a g) [ inl u ↦ c.fit a q u.1 d n | inr u ↦ fit (ap (λ (x : Param). x.dir) u.1 ∙ d) (λ e. n (sym (ap (λ (x : Param). x.kind) u.1) ∙ e)) ];
}

ops_apart_more : (os : List Signature) (o : Signature) → CleanOps os → NameFits os o.name
    → (a b : ℕ) (q r : Signature) → slice_get (os ++ o ∷ []) a ≡ Some q → slice_get (os ++ o ∷ []) b ≡ Some r → a < b → q.name ≡ r.name → ⊥
ops_apart_more os o c n a b q r g h lt same =
    elim (get_snoc os o r b h) [
      | inl v ↦ elim (get_snoc os o q a g) [ inl u ↦ c.apart a b q r u.1 v.1 lt same | inr u ↦ omega (arith, u.0, v.0) ]
      | inr v ↦ elim (get_snoc os o q a g) [ inl u ↦ n.apart a q u.1 (same ∙ ap (λ (x : Signature). x.name) (sym v.1)) | inr u ↦ omega (arith, u.0, v.0) ]
    ]

pub ops_more : (os : List Signature) (o : Signature) → CleanOps os → NameFits os o.name → CleanParams o.params → CleanOps (os ++ o ∷ [])
ops_more os o c n p = record {
  few = let lt = n.few in omega (arith, length-append os (o ∷ []));
  apart = ops_apart_more os o c n;
  free = λ j q g h. elim (get_snoc os o q j g) [ inl u ↦ c.free j q u.1 h | inr u ↦ n.free (ap (λ (x : Signature). is_keyword x.name) u.1 ∙ h) ];
  each = λ j q g. elim (get_snoc os o q j g) [ inl u ↦ c.each j q u.1 | inr u ↦ subst (λ (x : Signature). CleanParams x.params) u.1 p ];
}

-- ---- places

-- the place behind the operations
abbrev pub size_of : List Signature → ℕ
size_of os = length (ops_signs os)

pub place_behind : (os : List Signature) (rest : List Signature) → name_place (os ++ rest) (length os) ≡ 4 + size_of os
place_behind os rest = ap (λ (qs : List Signature). 4 + length (ops_signs qs)) (take_at os rest (length os) refl)

-- what an operation behind others that break no rule may break, and where
pub data LastBreaks (os : List Signature) (o : Signature) : ℕ → IdlKind → Type 0 where
  last_many : (k : ℕ) → 64 ≤ length os → k ≡ 4 + size_of os → LastBreaks os o k TooMany
  last_params : (k : ℕ) → 16 < length o.params → k ≡ 4 + size_of os + 66 → LastBreaks os o k TooMany
  last_twice : (k j : ℕ) (p : Signature) → slice_get os j ≡ Some p → p.name ≡ o.name → k ≡ 4 + size_of os → LastBreaks os o k Twice
  last_param : (k a b : ℕ) (p q : Param) → slice_get o.params a ≡ Some p → slice_get o.params b ≡ Some q → a < b → p.name ≡ q.name → k ≡ 4 + size_of os + 4 + 4 * b → LastBreaks os o k Twice
  last_word : (k : ℕ) → is_keyword o.name ≡ true → k ≡ 4 + size_of os → LastBreaks os o k Reserved
  last_clash : (k a : ℕ) (p : Param) → slice_get o.params a ≡ Some p → p.dir ≡ Both → p.kind ≢ File → k ≡ 4 + size_of os + 3 + 4 * a → LastBreaks os o k BadCombination
