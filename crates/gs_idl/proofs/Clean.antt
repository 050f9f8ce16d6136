-- What was read so far breaks no rule.
use Rattle.std.proofs.Common.{◌≡◌, ◌≢◌, ℕ, ◌<◌, ◌≤◌, Bool, true, false, nat_le, if◌then◌else◌, List, length, Option, Some, None, refl, sym, subst}
use Rattle.std.specs.Prelude.{slice_get}
use Rattle.std.specs.Str.{bytes_eq}
use Rattle.std.proofs.lemmas.Slice.Eq.{bytes_eq-Decides}
use Rattle.std.proofs.lemmas.Bool.{leb-true, leb-false}
use Rattle.gs_idl.specs.Interface.{Param, Signature}
use Rattle.gs_idl.specs.Word.{is_keyword}
use Rattle.gs_idl.specs.Lexicon.{IdlSign}
use Rattle.gs_idl.specs.Grammar.{kind_word}
use Rattle.gs_idl.specs.declared.idl.Dir.{Dir}
use Rattle.gs_idl.specs.declared.idl.Dir.TheVariants.{Input, Both, Output}
use Rattle.gs_idl.specs.declared.idl.ParamKind.{ParamKind}
use Rattle.gs_idl.specs.declared.idl.ParamKind.TheVariants.{File, Int, Str}
use Rattle.gs_idl.specs.declared.token.IdlKind.{IdlKind}
use Rattle.gs_idl.specs.declared.token.IdlKind.TheVariants.{BadCombination, TooMany, Twice, Reserved}
use Rattle.gs_idl.proofs.Lists.{any_at}
use Rattle.gs_idl.specs.Machine.{State, start, at_title, at_brace, at_ops, at_name, at_paren, at_dir, at_kind, at_param, at_sep, at_semi, closed, ended, whole, param_by, op_by, broken, name_rule, clash_rule, is_clash, has_op, has_param, kind_of}
use Rattle.gs_idl.proofs.Transitions.{Next, to_title, to_brace, to_ops, to_name, to_closed, to_paren, to_dir, to_kind, to_param, to_sep, to_more, to_semi, to_next, to_ended, to_whole, to_end, kind_found}
use Rattle.gs_idl.proofs.Rules.{CleanParams, CleanOps, NameFits, clean_none, clean_no_params, params_more, ops_more}

abbrev pub Clean : State → Type 0
Clean start = Unit {0}
Clean at_title = Unit {0}
Clean (at_brace x) = Unit {0}
Clean (at_ops x os) = CleanOps os
Clean (at_name x os) = CleanOps os
Clean (at_paren x os f) = CleanOps os × NameFits os f
Clean (at_dir x os f ps) = CleanOps os × NameFits os f × CleanParams ps
Clean (at_kind x os f ps d) = CleanOps os × NameFits os f × CleanParams ps × (length ps < 16)
Clean (at_param x os f ps d k) = CleanOps os × NameFits os f × CleanParams ps × (length ps < 16) × (d ≡ Both → k ≢ File → ⊥)
Clean (at_sep x os f ps) = CleanOps os × NameFits os f × CleanParams ps
Clean (at_semi x os f ps) = CleanOps os × NameFits os f × CleanParams ps
Clean (closed x os) = CleanOps os
Clean (ended x os) = CleanOps os
Clean (whole b x os) = CleanOps os

same_word : (w : List ℕ) → bytes_eq w w ≡ true
same_word w = (bytes_eq-Decides w w).1 refl

pub equal_words : (w v : List ℕ) → w ≡ v → bytes_eq v w ≡ true
equal_words w v e = subst (λ (u : List ℕ). bytes_eq v u ≡ true) (sym e) (same_word v)

-- ---- the rule of a name

pub data NameRule (os : List Signature) (f : List ℕ) : Option IdlKind → Type 0 where
  name_many : 64 ≤ length os → NameRule os f (Some TooMany)
  name_twice : length os < 64 → has_op f os ≡ true → NameRule os f (Some Twice)
  name_word : length os < 64 → has_op f os ≡ false → is_keyword f ≡ true → NameRule os f (Some Reserved)
  name_fits : length os < 64 → has_op f os ≡ false → is_keyword f ≡ false → NameRule os f None

name_by : (os : List Signature) (f : List ℕ) (a b c : Bool) → nat_le 64 (length os) ≡ a → has_op f os ≡ b → is_keyword f ≡ c → NameRule os f (if a then Some TooMany else if b then Some Twice else if c then Some Reserved else None)
name_by os f true b c x y z = name_many (leb-true 64 (length os) x)
name_by os f false true c x y z = name_twice (leb-false 64 (length os) x) y
name_by os f false false true x y z = name_word (leb-false 64 (length os) x) y z
name_by os f false false false x y z = name_fits (leb-false 64 (length os) x) y z

pub name_is : (os : List Signature) (f : List ℕ) → NameRule os f (name_rule os f)
name_is os f = name_by os f (nat_le 64 (length os)) (has_op f os) (is_keyword f) refl refl refl

not_both : (b : Bool) → b ≡ true → b ≡ false → ⊥
not_both b e f = cc

pub no_op : (f : List ℕ) (os : List Signature) (j : ℕ) (o : Signature) → has_op f os ≡ false → slice_get os j ≡ Some o → o.name ≡ f → ⊥
no_op f os j o e g same = not_both (has_op f os) (any_at (λ p. bytes_eq f p.name) os o j g (equal_words o.name f same)) e

fits_by : (os : List Signature) (f : List ℕ) (r : Option IdlKind) → NameRule os f r → r ≡ None → NameFits os f
fits_by os f r (name_many h) e = absurd cc
fits_by os f r (name_twice h t) e = absurd cc
fits_by os f r (name_word h t u) e = absurd cc
fits_by os f r (name_fits h t u) e = record { few = h; apart = λ j o g same. no_op f os j o t g same; free = λ k. not_both (is_keyword f) k u }

pub name_clean : (os : List Signature) (f : List ℕ) → name_rule os f ≡ None → NameFits os f
name_clean os f e = fits_by os f (name_rule os f) (name_is os f) e

-- ---- the rules of a parameter

few_by : (n : ℕ) (b : Bool) → nat_le 16 n ≡ b → (if b then Some TooMany else None) ≡ None → n < 16
few_by n true x e = absurd cc
few_by n false x e = leb-false 16 n x

clash_by : (d : Dir) (k : ParamKind) → (if is_clash d k then Some BadCombination else None) ≡ None → d ≡ Both → k ≢ File → ⊥
clash_by Input k e h n = cc
clash_by Output k e h n = cc
clash_by Both File e h n = n refl
clash_by Both Int e h n = cc
clash_by Both Str e h n = cc

clash_clean : (d : Dir) (k : ParamKind) (o : Option ParamKind) → o ≡ Some k → clash_rule d o ≡ None → d ≡ Both → k ≢ File → ⊥
clash_clean d k None is e = absurd cc
clash_clean d k (Some l) is e = let same : l ≡ k = cc in subst (λ (m : ParamKind). d ≡ Both → m ≢ File → ⊥) same (clash_by d l e)

unused : (w : List ℕ) (ps : List Param) (b : Bool) → has_param w ps ≡ b → (if b then Some Twice else None) ≡ None → (j : ℕ) (q : Param) → slice_get ps j ≡ Some q → q.name ≡ w → ⊥
unused w ps true x e j q g same = cc
unused w ps false x e j q g same = not_both (has_param w ps) (any_at (λ p. bytes_eq w p.name) ps q j g (equal_words q.name w same)) x

pub clean_next : (s : State) (g : IdlSign) (t : State) → Next s g t → broken s g ≡ None → Clean s → Clean t
unfolding broken
clean_next s g t to_title e c = tt
clean_next s g t (to_brace x) e c = tt
clean_next s g t (to_ops x) e c = clean_none
clean_next s g t (to_name x os) e c = c
clean_next s g t (to_closed x o os) e c = c
clean_next s g t (to_paren x os f) e c = (c, name_clean os f e)
clean_next s g t (to_dir x os f) e c = (c.0, c.1, clean_no_params)
clean_next s g t (to_kind x os f ps d) e c = (c.0, c.1, c.2, few_by (length ps) (nat_le 16 (length ps)) refl e)
clean_next s g t (to_param x os f ps d k) e c = (c.0, c.1, c.2, c.3, clash_clean d k (kind_of (kind_word k)) (kind_found k) e)
clean_next s g t (to_sep x os f ps d k w) e c = (c.0, c.1, params_more ps (param_by d k w) c.2 c.3 (unused w ps (has_param w ps) refl e) c.4)
clean_next s g t (to_more x os f ps) e c = c
clean_next s g t (to_semi x os f ps) e c = c
clean_next s g t (to_next x os f ps) e c = ops_more os (op_by f ps) c.0 c.1 c.2
clean_next s g t (to_ended x os) e c = c
clean_next s g t (to_whole x os) e c = c
clean_next s g t (to_end x os) e c = c
