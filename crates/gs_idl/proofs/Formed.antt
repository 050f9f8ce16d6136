-- What was read whole is well formed.
use Rattle.std.proofs.Common.{◌≡◌, ◌≢◌, ℕ, ◌+◌, ◌<◌, Bool, true, false, List, [], ◌∷◌, Option, Some, None, refl, sym, subst, ◌∙◌, arith}
use Rattle.gs_idl.specs.Interface.{Param, Signature, Interface, KeepParamRules, KeepRules}
use Rattle.gs_idl.specs.Word.{is_keyword}
use Rattle.gs_idl.specs.Lexicon.{IdlSign}
use Rattle.gs_idl.specs.declared.idl.ParamKind.{ParamKind}
use Rattle.gs_idl.specs.declared.idl.ParamKind.TheVariants.{File, Int, Str}
use Rattle.gs_idl.specs.declared.token.IdlKind.{IdlKind}
use Rattle.gs_idl.specs.Machine as m
use Rattle.gs_idl.specs.Machine.{State, whole, step, broken, stepped, unless, go, Fed, Text, Fault, moved, run}
use Rattle.gs_idl.proofs.Running.{run_nil, run_cons}
use Rattle.gs_idl.proofs.Transitions.{step_next}
use Rattle.gs_idl.proofs.Rules.{CleanParams, CleanOps}
use Rattle.gs_idl.proofs.Clean.{Clean, clean_next}

-- ---- the rules, in positive words

one_place : (a b : ℕ) → (a < b → ⊥) → (b < a → ⊥) → a ≡ b
one_place a b not_before not_after = grind arith

file_or_clash : (k : ParamKind) → (k ≢ File → ⊥) → k ≡ File
file_or_clash File clash = refl
file_or_clash Int clash = absurd (clash (λ same. cc))
file_or_clash Str clash = absurd (clash (λ same. cc))

false_or : (b : Bool) → (b ≡ true → ⊥) → b ≡ false
false_or true h = absurd (h refl)
false_or false h = refl

params_kept : (ps : List Param) → CleanParams ps → KeepParamRules ps
params_kept ps c = record {
  apart = λ a b p q g h same. one_place a b (λ lt. c.apart a b p q g h lt same) (λ lt. c.apart b a q p h g lt (sym same));
  files = λ a p g both. file_or_clash p.kind (λ other. c.fit a p g both other);
}

pub rules_kept : (os : List Signature) → CleanOps os → KeepRules os
rules_kept os c = record {
  apart = λ a b o p g h same. one_place a b (λ lt. c.apart a b o p g h lt same) (λ lt. c.apart b a p o h g lt (sym same));
  free = λ a o g. false_or (is_keyword o.name) (c.free a o g);
  params = λ a o g. params_kept o.params (c.each a o g);
}

-- ---- what the machine read whole breaks no rule

abbrev Forms : ℕ → List IdlSign → Interface → Type 0
Forms n gs i = (t : State) → Clean t → run n t gs ≡ Text i → CleanOps i.ops

moved_clean : (n : ℕ) (gs : List IdlSign) (i : Interface) → Forms n gs i → (t : State) → Clean t → moved t (run n t gs) ≡ Text i → CleanOps i.ops
moved_clean n gs i rec (whole b x os) k f = subst CleanOps (let same : os ≡ i.ops = cc in same) k
moved_clean n gs i rec t k f = rec t k f

broken_clean : (n : ℕ) (g : IdlSign) (gs : List IdlSign) (s t : State) (i : Interface) → Forms (n + 1) gs i → Clean s → step s g ≡ Some t → (o : Option IdlKind) → broken s g ≡ o
    → m.goes (unless o (go t)) n (λ u. run (n + 1) u gs) ≡ Text i → CleanOps i.ops
broken_clean n g gs s t i rec c is None b f = moved_clean (n + 1) gs i rec t (clean_next s g t (step_next s g t is) b c) f
broken_clean n g gs s t i rec c is (Some kind) b f = absurd cc

stepped_clean : (n : ℕ) (g : IdlSign) (gs : List IdlSign) (s : State) (i : Interface) → Forms (n + 1) gs i → Clean s → (o : Option State) → step s g ≡ o
    → m.goes (stepped s g o) n (λ u. run (n + 1) u gs) ≡ Text i → CleanOps i.ops
stepped_clean n g gs s i rec c None is f = absurd cc
stepped_clean n g gs s i rec c (Some t) is f = broken_clean n g gs s t i rec c is (broken s g) refl f

-- what the machine read whole breaks no rule
pub whole_clean : (gs : List IdlSign) (n : ℕ) (s : State) (i : Interface) → Clean s → run n s gs ≡ Text i → CleanOps i.ops
whole_clean [] n s i c e = absurd (let bad = sym (run_nil n s) ∙ e in cc)
whole_clean (g ∷ gs) n s i c e = stepped_clean n g gs s i (λ t k f. whole_clean gs (n + 1) t i k f) c (step s g) refl (sym (run_cons n s g gs) ∙ e)
