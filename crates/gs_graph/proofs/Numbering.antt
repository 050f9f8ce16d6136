-- Numbers from 1 for places from 0.
use Rattle.std.proofs.Common.{◌≡◌, ◌<◌, ◌+◌, ◌-◌, ℕ, zero, suc, Bool, true, false, refl, sym, ap, ◌∙◌, List, [], ◌∷◌, arith, nat_lt, if◌then◌else◌, map, All, slice_get, None}
use Rattle.std.specs.Prelude.{◌&&◌, ◌||◌, not, ◌==◌}
use Rattle.std.proofs.lemmas.Bool.Decides.{nat_tests}
use Rattle.gs_graph.specs.Numbers.{has, rises}
use Rattle.gs_graph.specs.Edges.{all_below}
use Rattle.gs_graph.specs.Counted.{IsDueList}
use Rattle.gs_graph.specs.Graph.{by_number, IsReady, IsReadyList}
use Rattle.gs_graph.proofs.Lists.{and_true, lt_is}

same_test : (a b : ℕ) → (suc a == suc b) ≡ (a == b)
same_test a b = grind (arith, nat_tests)

same_order : (a b : ℕ) → nat_lt (suc a) (suc b) ≡ nat_lt a b
same_order a b = grind (arith, nat_tests)

apart : (a : ℕ) → (suc a == 0) ≡ false
apart a = grind (arith, nat_tests)

pub has_suc : (m : ℕ) (xs : List ℕ) → has (suc m) (map suc xs) ≡ has m xs
has_suc m [] = refl
has_suc m (x ∷ xs) = ap (λ (b : Bool). b || has (suc m) (map suc xs)) (same_test x m) ∙ ap (λ (b : Bool). (x == m) || b) (has_suc m xs)

pub has_zero : (xs : List ℕ) → has 0 (map suc xs) ≡ false
has_zero [] = refl
has_zero (x ∷ xs) = ap (λ (b : Bool). b || has 0 (map suc xs)) (apart x) ∙ has_zero xs

pub rises_suc : (low high : ℕ) (xs : List ℕ) → rises (suc low) (suc high) (map suc xs) ≡ rises low high xs
rises_suc low high [] = refl
rises_suc low high (x ∷ xs) =
    ap (λ (b : Bool). not b && (nat_lt (suc x) (suc high) && rises (suc (suc x)) (suc high) (map suc xs))) (same_order x low)
    ∙ ap (λ (b : Bool). not (nat_lt x low) && (b && rises (suc (suc x)) (suc high) (map suc xs))) (same_order x high)
    ∙ ap (λ (b : Bool). not (nat_lt x low) && (nat_lt x high && b)) (rises_suc (suc x) high xs)

-- the list of ready tasks, by their numbers
pub ready_list : (waits needs : ℕ → ℕ → Bool) (ended done : ℕ → Bool) (count : ℕ) (xs : List ℕ) → ((m : ℕ) → done (suc m) ≡ ended m) → ((m : ℕ) → needs (suc m) 0 ≡ false) → ((m p : ℕ) → needs (suc m) (suc p) ≡ waits m p) → IsDueList waits ended count xs → IsReadyList needs done count (map suc xs)
ready_list waits needs ended done count xs same none moved list = record {
  rising = rises_suc 0 count xs ∙ list.rising;
  sound = sound;
  full = full;
}
  where
    produced : (m : ℕ) → ((p : ℕ) → waits m p ≡ true → ended p ≡ true) → (p : ℕ) → needs (suc m) p ≡ true → done p ≡ true
    produced m each zero is = let no_task = none m in absurd (cc)
    produced m each (suc p) is = same p ∙ each p (sym (moved m p) ∙ is)

    sound : (n : ℕ) → has n (map suc xs) ≡ true → IsReady needs done count n
    sound zero is = let isnt = has_zero xs in absurd (cc)
    sound (suc m) is = let due = list.sound m (sym (has_suc m xs) ∙ is) in record {
      first = omega arith;
      added = let lt = due.0 in omega arith;
      unfinished = same m ∙ due.1;
      produced = produced m due.2;
    }

    full : (n : ℕ) → IsReady needs done count n → has n (map suc xs) ≡ true
    full zero ready = let first = ready.first in absurd (omega arith)
    full (suc m) ready = has_suc m xs ∙ list.full m (let le = ready.added in omega arith, sym (same m) ∙ ready.unfinished, λ p is. sym (same p) ∙ ready.produced (suc p) (moved m p ∙ is))

first_in : (n p : ℕ) (ps : List ℕ) → All (λ i. (0 < i) × (i < n)) (p ∷ ps) → (0 < p) × (p < n)
first_in n p ps all = all 0 0 (omega arith)

rest_in : (n p : ℕ) (ps : List ℕ) → All (λ i. (0 < i) × (i < n)) (p ∷ ps) → All (λ i. (0 < i) × (i < n)) ps
rest_in n p ps all = λ k d lt. all (suc k) d (omega arith)

less : (p n count : ℕ) → 0 < p → p < n → n ≡ count + 1 → p - 1 < count
less p n count first lt e = omega arith

-- earlier tasks have earlier places
pub below_places : (n count : ℕ) (ps : List ℕ) → n ≡ count + 1 → All (λ p. (0 < p) × (p < n)) ps → all_below count (map (λ p. p - 1) ps) ≡ true
below_places n count [] e all = refl
below_places n count (p ∷ ps) e all = and_true (nat_lt (p - 1) count) (all_below count (map (λ i. i - 1) ps)) (lt_is (p - 1) count (less p n count (first_in n p ps all).0 (first_in n p ps all).1 e)) (below_places n count ps e (rest_in n p ps all))

place_test : (p q : ℕ) → 0 < p → (p - 1 == q) ≡ (p == suc q)
place_test p q first = grind (arith, nat_tests)

not_zero : (p : ℕ) → 0 < p → (p == 0) ≡ false
not_zero p first = grind (arith, nat_tests)

pub has_place : (n q : ℕ) (ps : List ℕ) → All (λ p. (0 < p) × (p < n)) ps → has q (map (λ p. p - 1) ps) ≡ has (suc q) ps
has_place n q [] all = refl
has_place n q (p ∷ ps) all = ap (λ (b : Bool). b || has q (map (λ i. i - 1) ps)) (place_test p q (first_in n p ps all).0) ∙ ap (λ (b : Bool). (p == suc q) || b) (has_place n q ps (rest_in n p ps all))

pub has_no_zero : (n : ℕ) (ps : List ℕ) → All (λ p. (0 < p) × (p < n)) ps → has 0 ps ≡ false
has_no_zero n [] all = refl
has_no_zero n (p ∷ ps) all = ap (λ (b : Bool). b || has 0 ps) (not_zero p (first_in n p ps all).0) ∙ has_no_zero n ps (rest_in n p ps all)

left : (b c d : Bool) → b ≡ false → (if b then c else d) ≡ d
left true c d e = absurd (cc)
left false c d e = refl

both_false : (b c d : Bool) → c ≡ false → d ≡ false → false ≡ (if b then c else d)
both_false true c d x y = sym x
both_false false c d x y = sym y

no_first : (n count : ℕ) → n ≡ count + 1 → (n == 0) ≡ false
no_first n count e = grind (arith, nat_tests)

last_test : (n count m : ℕ) → n ≡ count + 1 → (count == m) ≡ (n == suc m)
last_test n count m e = grind (arith, nat_tests)

-- who waits for whom once task n was added, by numbers
pub needs_added : (waits now : ℕ → ℕ → Bool) (n count : ℕ) (ps : List ℕ)
    → n ≡ count + 1 → All (λ p. (0 < p) × (p < n)) ps
    → ((m p : ℕ) → now m p ≡ (if count == m then has p (map (λ i. i - 1) ps) else waits m p))
    → (m p : ℕ) → by_number now m p ≡ (if n == m then has p ps else by_number waits m p)
needs_added waits now n count ps e all added zero p = sym (left (n == 0) (has p ps) false (no_first n count e))
needs_added waits now n count ps e all added (suc m) zero = both_false (n == suc m) (has 0 ps) false (has_no_zero n ps all) refl
needs_added waits now n count ps e all added (suc m) (suc p) =
    added m p ∙ ap (λ (b : Bool). if b then has p (map (λ i. i - 1) ps) else waits m p) (last_test n count m e)
    ∙ ap (λ (b : Bool). if n == suc m then b else waits m p) (has_place n p ps all)

-- past the list is past the list of numbers
pub none_suc : (xs : List ℕ) (i : ℕ) → slice_get xs i ≡ None → slice_get (map suc xs) i ≡ None
none_suc [] i e = refl
none_suc (x ∷ xs) zero e = absurd (cc)
none_suc (x ∷ xs) (suc i) e = none_suc xs i e
