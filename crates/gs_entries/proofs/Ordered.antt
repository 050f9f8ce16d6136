-- Entries that grow at their end, and what a payload is behind them.
use Rattle.std.proofs.Common.{◌≡◌, ℕ, ◌+◌, Bool, true, false, not, subst, List, [], ◌∷◌, ◌++◌, length, Option, Some, None, Result, Ok, Err, refl, sym, ap, ◌∙◌, append_assoc, arith, length-append}
use Rattle.std.specs.Prelude.{◌==◌, IfSome}
use Rattle.std.specs.List.{list_any}
use Rattle.std.specs.Option.{option_to_list}
use Rattle.std.proofs.lemmas.List.{append-nil}
use Rattle.gs_fields.specs.Format.{whole}
use Rattle.gs_entries.specs.declared.entry.Entry.{Entry}
use Rattle.gs_entries.specs.declared.entry.Entry.TheVariants as made
use Rattle.gs_entries.specs.declared.entry.Stage.{Stage}
use Rattle.gs_entries.specs.declared.entry.Stage.TheVariants as stages
use Rattle.gs_entries.specs.Entries.{entry, Spells}
use Rattle.gs_entries.specs.Order.{stage_by, later, stage_after, stage_of, done_by, dones, has_done, may_follow, follows, accepted, records, IsFirst}
use Rattle.gs_entries.proofs.Spelling.{whole_spelled}

pub stage_push : (s : Stage) (es : List Entry) (e : Entry) → stage_after s (es ++ e ∷ []) ≡ later (stage_after s es) (stage_by e)
stage_push s [] e = refl
stage_push s (x ∷ es) e = stage_push (later s (stage_by x)) es e

pub dones_push : (es : List Entry) (e : Entry) → dones (es ++ e ∷ []) ≡ dones es ++ done_by e
dones_push [] e = append-nil (done_by e)
dones_push (x ∷ es) e = ap (λ (l : List ℕ). done_by x ++ l) (dones_push es e) ∙ sym (append_assoc (done_by x) (dones es) (done_by e))

pub accepted_is : (es : List Entry) (p : List ℕ) (e : Entry) → whole entry p ≡ Some e → follows es e ≡ true → accepted es p ≡ Some e
unfolding accepted
accepted_is es p e is may = rw (is, may) refl

pub not_entry : (es : List Entry) (p : List ℕ) → whole entry p ≡ None → accepted es p ≡ None
unfolding accepted
not_entry es p is = rw is refl

pub not_in_order : (es : List Entry) (p : List ℕ) (e : Entry) → whole entry p ≡ Some e → follows es e ≡ false → accepted es p ≡ None
unfolding accepted
not_in_order es p e is may = rw (is, may) refl

pub accepted_spelled : (es : List Entry) (p : List ℕ) (e : Entry) → Spells e p → follows es e ≡ true → accepted es p ≡ Some e
accepted_spelled es p e s may = accepted_is es p e (whole_spelled e p s) may

-- ---- the first payload that is refused

record FirstAfter (es : List Entry) (ps : List (List ℕ)) (i : ℕ) : Type 0 where
  before : List (List ℕ)
  bad : List ℕ
  behind : List (List ℕ)
  read : List Entry
  parts : ps ≡ before ++ bad ∷ behind
  place : length es + length before ≡ i
  fine : records es before ≡ Ok read
  refused : accepted read bad ≡ None

abbrev err_of : ℕ → Result (List Entry) ℕ
err_of n = Err n

err_is : (a b : ℕ) → err_of a ≡ err_of b → a ≡ b
err_is a b e = cc

first_at : (es : List Entry) (p : List ℕ) (ps : List (List ℕ)) (i : ℕ) (o : Option Entry) → ((x : Entry) → records (es ++ x ∷ []) ps ≡ Err i → FirstAfter (es ++ x ∷ []) ps i) → accepted es p ≡ o → (elim o as (λ _. Result (List Entry) ℕ) [ Some e ↦ records (es ++ e ∷ []) ps | None ↦ Err (length es) ]) ≡ Err i → FirstAfter es (p ∷ ps) i
first_at es p ps i (Some x) more was e =
    let f = more x e in
    let fine : records es (p ∷ f.before) ≡ Ok f.read = rw (was, records) f.fine in
    record {
      before = p ∷ f.before;
      bad = f.bad;
      behind = f.behind;
      read = f.read;
      parts = ap (λ (r : List (List ℕ)). p ∷ r) f.parts;
      place = omega (arith, f.place, length-append es (x ∷ []));
      fine = fine;
      refused = f.refused;
    }
first_at es p ps i None more was e = record {
  before = [];
  bad = p;
  behind = ps;
  read = es;
  parts = refl;
  place = omega (arith, err_is (length es) i e);
  fine = refl;
  refused = was;
}

first_after : (es : List Entry) (ps : List (List ℕ)) (i : ℕ) → records es ps ≡ Err i → FirstAfter es ps i
first_after es [] i e = absurd cc
first_after es (p ∷ ps) i e = first_at es p ps i (accepted es p) (λ x h. first_after (es ++ x ∷ []) ps i h) refl e

pub is_first : (ps : List (List ℕ)) (i : ℕ) → records [] ps ≡ Err i → IsFirst ps i
is_first ps i e =
    let f = first_after [] ps i e in
    record { before = f.before; bad = f.bad; behind = f.behind; read = f.read; parts = f.parts; place = omega (arith, f.place); fine = f.fine; refused = f.refused }

-- ---- an entry that may follow

bad_not : (b : Bool) → not b ≡ true → b ≡ false
bad_not true e = absurd cc
bad_not false e = refl

no_item : (n : ℕ) → n ∷ [] ≡ [] → ⊥
no_item n e = cc

one_item : (n m : ℕ) → n ∷ [] ≡ m ∷ [] → n ≡ m
one_item n m e = cc

-- the task of an entry that may follow isn't done yet
not_done_at : (s : Stage) (es : List Entry) (e : Entry) (task : Option ℕ) → option_to_list task ≡ done_by e → may_follow s es e ≡ true → IfSome task (λ n. list_any (λ m. n == m) (dones es) ≡ false)
not_done_at s es e None is may = tt
not_done_at s es (made.Header t) (Some n) is may = absurd (no_item n is)
not_done_at stages.Running es (made.Done m op os) (Some n) is may = subst (λ (k : ℕ). list_any (λ m. k == m) (dones es) ≡ false) (sym (one_item n m is)) (bad_not (has_done es m) may)
not_done_at stages.Fresh es (made.Done m op os) (Some n) is may = absurd cc
not_done_at stages.Gated es (made.Done m op os) (Some n) is may = absurd cc
not_done_at stages.Closed es (made.Done m op os) (Some n) is may = absurd cc
not_done_at s es (made.Gate g) (Some n) is may = absurd (no_item n is)
not_done_at s es made.Closed (Some n) is may = absurd (no_item n is)

pub not_done : (es : List Entry) (e : Entry) (task : Option ℕ) (keys : List ℕ) → keys ≡ dones es → option_to_list task ≡ done_by e → follows es e ≡ true → IfSome task (λ n. list_any (λ m. n == m) keys ≡ false)
not_done es e task keys same is may = subst (λ (ks : List ℕ). IfSome task (λ n. list_any (λ m. n == m) ks ≡ false)) (sym same) (not_done_at (stage_of es) es e task is may)

-- what is at hand of entries after one more
pub pushed : (old new : List Entry) (e : Entry) (s t r : Stage) (keys more : List ℕ) (task : Option ℕ) → s ≡ stage_of old → t ≡ stage_by e → r ≡ later s t → keys ≡ dones old → option_to_list task ≡ done_by e → more ≡ keys ++ option_to_list task → new ≡ old ++ e ∷ []
    → (r ≡ stage_of new) × (more ≡ dones new)
pushed old new e s t r keys more task ss tt' rs ks ds ms ns =
    let p = stage_push stages.Fresh old e in
    let q = dones_push old e in
    (cc, cc)
