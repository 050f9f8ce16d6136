-- How many producers have not finished.
use Rattle.std.proofs.Common.{◌≡◌, ◌≢◌, ◌<◌, ◌≤◌, ◌+◌, ℕ, zero, suc, Bool, true, false, refl, sym, ap, ◌∙◌, subst, List, arith, nat_lt, nat_eq, if◌then◌else◌, inl, inr}
use Rattle.std.specs.Prelude.{◌&&◌, ◌||◌, not, ◌==◌}
use Rattle.std.proofs.lemmas.Bool.{cases_lt}
use Rattle.std.proofs.lemmas.Bool.Decides.{nat_tests, eqb_tells}
use Rattle.gs_graph.specs.Numbers.{has, count_of, put_in, one_if}
use Rattle.gs_graph.specs.Edges.{open_of, unless_done, is_due}
use Rattle.gs_graph.proofs.Lists.{has_put, lt_is, has_none, none_has}

-- ---- one more has finished

here_or : (done now : ℕ → Bool) (n p c : ℕ) → now p ≡ (if n == p then true else done p) → n ≢ p → unless_done (now p) c ≡ unless_done (done p) c
here_or done now n p c e ne = elim (eqb_tells n p) [
  | inl is ↦ absurd (ne is.1)
  | inr other ↦ ap (λ (b : Bool). unless_done b c) (e ∙ ap (λ (t : Bool). if t then true else done p) other.0)
]

here_now : (done now : ℕ → Bool) (p c : ℕ) → now p ≡ (if p == p then true else done p) → unless_done (now p) c ≡ 0
here_now done now p c e = elim (eqb_tells p p) [
  | inl is ↦ ap (λ (b : Bool). unless_done b c) (e ∙ ap (λ (t : Bool). if t then true else done p) is.0)
  | inr other ↦ absurd (other.1 refl)
]

pub open_early : (next : ℕ → List ℕ) (done now : ℕ → Bool) (m n k : ℕ) → ((p : ℕ) → now p ≡ (if n == p then true else done p)) → k ≤ n → open_of next done m k ≡ open_of next now m k
open_early next done now m n zero e le = refl
open_early next done now m n (suc k) e le =
    let rest = open_early next done now m n k e (omega arith) in
    let here = here_or done now n k (count_of m (next k)) (e k) (λ s. absurd (omega arith)) in omega arith

pub open_less : (next : ℕ → List ℕ) (done now : ℕ → Bool) (m n k : ℕ) → ((p : ℕ) → now p ≡ (if n == p then true else done p)) → done n ≡ false → n < k → open_of next done m k ≡ open_of next now m k + count_of m (next n)
open_less next done now m n zero e not_yet lt = absurd (omega arith)
open_less next done now m n (suc k) e not_yet lt = elim (cases_lt n k) [
  | inl below ↦
      let rest = open_less next done now m n k e not_yet below in
      let here = here_or done now n k (count_of m (next k)) (e k) (λ s. absurd (omega arith)) in omega arith
  | inr above ↦
      let same : n ≡ k = omega arith in
      let rest = open_early next done now m n k e (omega arith) in
      let gone = here_now done now k (count_of m (next k)) (subst (λ (i : ℕ). now k ≡ (if i == k then true else done k)) same (e k)) in
      let was : unless_done (done k) (count_of m (next k)) ≡ count_of m (next k) = ap (λ (b : Bool). unless_done b (count_of m (next k))) (ap done (sym same) ∙ not_yet) in
      let it : count_of m (next n) ≡ count_of m (next k) = ap (λ (i : ℕ). count_of m (next i)) same in omega arith
]

-- ---- none is open

pub none_open : (next : ℕ → List ℕ) (done : ℕ → Bool) (m k : ℕ) → open_of next done m k ≡ 0 → (p : ℕ) → p < k → has m (next p) ≡ true → done p ≡ true
none_open next done m zero e p lt is = absurd (omega arith)
none_open next done m (suc k) e p lt is = elim (cases_lt p k) [
  | inl below ↦ none_open next done m k (omega arith) p below is
  | inr above ↦ let same : p ≡ k = omega arith in of_done (done p) refl (let h : open_of next done m (suc k) ≡ 0 = e in ap (λ (i : ℕ). unless_done (done i) (count_of m (next i))) same ∙ (let z : unless_done (done k) (count_of m (next k)) ≡ 0 = omega arith in z))
]
  where
    of_done : (b : Bool) → done p ≡ b → unless_done (done p) (count_of m (next p)) ≡ 0 → done p ≡ true
    of_done true d z = d
    of_done false d z =
        let c : count_of m (next p) ≡ 0 = sym (ap (λ (b : Bool). unless_done b (count_of m (next p))) d) ∙ z in
        let isnt = has_none m (next p) c in absurd (cc)

pub all_done : (next : ℕ → List ℕ) (done : ℕ → Bool) (m k : ℕ) → ((p : ℕ) → has m (next p) ≡ true → done p ≡ true) → open_of next done m k ≡ 0
all_done next done m zero each = refl
all_done next done m (suc k) each = let rest = all_done next done m k each in let here = of_has (has m (next k)) refl in omega arith
  where
    of_has : (b : Bool) → has m (next k) ≡ b → unless_done (done k) (count_of m (next k)) ≡ 0
    of_has true is = ap (λ (b : Bool). unless_done b (count_of m (next k))) (each k is)
    of_has false is = of_done (done k)
      where
        of_done : (b : Bool) → unless_done b (count_of m (next k)) ≡ 0
        of_done true = refl
        of_done false = none_has m (next k) is

-- ---- the list, where one counter is lower

same_due : (count : ℕ) (done : ℕ → Bool) (old new : ℕ → ℕ) (m : ℕ) → new m ≡ old m → is_due count done new m ≡ is_due count done old m
same_due count done old new m e = ap (λ (i : ℕ). nat_lt m count && (not (done m) && nat_eq i 0)) e

or_false : (b : Bool) (c : Bool) → b ≡ false → (b || c) ≡ c
or_false true c e = absurd (cc)
or_false false c e = refl

pub lower_listed : (count : ℕ) (done : ℕ → Bool) (old new : ℕ → ℕ) (s : ℕ) (xs : List ℕ) (due : Bool) → s < count → 0 < old s → ((m : ℕ) → new m + one_if (s == m) ≡ old m) → ((m : ℕ) → has m xs ≡ is_due count done old m) → due ≡ (not (done s) && nat_eq (new s) 0)
    → (m : ℕ) → has m (if due then put_in s xs else xs) ≡ is_due count done new m
lower_listed count done old new s xs due lt some less listed is m = elim (eqb_tells s m) [
  | inl same ↦ subst (λ (i : ℕ). has i (if due then put_in s xs else xs) ≡ is_due count done new i) same.1 (at_s due refl)
  | inr other ↦
      let z : one_if (s == m) ≡ 0 = ap one_if other.0 in
      let l = less m in
      let e : new m ≡ old m = omega arith in
      of_due due (or_false (s == m) (has m xs) other.0) ∙ listed m ∙ sym (same_due count done old new m e)
]
  where
    of_due : (b : Bool) → ((s == m) || has m xs) ≡ has m xs → has m (if b then put_in s xs else xs) ≡ has m xs
    of_due true e = has_put m s xs ∙ e
    of_due false e = refl

    not_zero : (a : ℕ) → 0 < a → nat_eq a 0 ≡ false
    not_zero a pos = grind (arith, nat_tests)

    was_not : has s xs ≡ false
    was_not = listed s ∙ ap (λ (b : Bool). nat_lt s count && (not (done s) && b)) (not_zero (old s) some) ∙ no_and (nat_lt s count) (not (done s))
      where
        no_and : (a b : Bool) → (a && (b && false)) ≡ false
        no_and true true = refl
        no_and true false = refl
        no_and false b = refl

    now_due : is_due count done new s ≡ due
    now_due = ap (λ (b : Bool). b && (not (done s) && nat_eq (new s) 0)) (lt_is s count lt) ∙ sym is

    or_true : (b c : Bool) → b ≡ true → (b || c) ≡ true
    or_true true c e = refl
    or_true false c e = absurd (cc)

    at_s : (b : Bool) → due ≡ b → has s (if due then put_in s xs else xs) ≡ is_due count done new s
    at_s true e = ap (λ (b : Bool). has s (if b then put_in s xs else xs)) e ∙ has_put s s xs ∙ or_true (s == s) (has s xs) (elim (eqb_tells s s) [ inl t ↦ t.0 | inr f ↦ absurd (f.1 refl) ]) ∙ sym e ∙ sym now_due
    at_s false e = ap (λ (b : Bool). has s (if b then put_in s xs else xs)) e ∙ was_not ∙ sym e ∙ sym now_due

-- a task whose counter isn't 0 is not listed
pub not_listed : (count : ℕ) (done : ℕ → Bool) (old : ℕ → ℕ) (s : ℕ) (xs : List ℕ) → 0 < old s → ((m : ℕ) → has m xs ≡ is_due count done old m) → has s xs ≡ false
not_listed count done old s xs some listed = listed s ∙ none (nat_lt s count) (not (done s)) (nat_eq (old s) 0) (grind (arith, nat_tests))
  where
    none : (a b c : Bool) → c ≡ false → (a && (b && c)) ≡ false
    none true true c e = e
    none true false c e = refl
    none false b c e = refl
