-- One task more.
use Rattle.std.proofs.Common.{◌≡◌, ◌≢◌, ◌<◌, ◌≤◌, ◌+◌, ◌++◌, ℕ, zero, suc, Bool, true, false, refl, sym, ap, ◌∙◌, subst, List, [], ◌∷◌, length, arith, nat_lt, nat_eq, if◌then◌else◌, inl, inr, slice_index, length-append}
use Rattle.std.specs.Prelude.{◌&&◌, ◌||◌, not, ◌==◌}
use Rattle.std.specs.declared.vec.Vec.{Vec}
use Rattle.std.specs.declared.alloc.Global.{Global}
use Rattle.std.proofs.lemmas.Bool.{cases_lt, ne_eqb}
use Rattle.std.proofs.lemmas.Bool.Decides.{nat_tests, eqb_tells}
use Rattle.gs_graph.specs.Numbers.{has, count_of, rises, put_in, one_if}
use Rattle.gs_graph.specs.Edges.{after, ends, open_of, open_in, unless_done, is_due, done_at, all_below}
use Rattle.gs_graph.proofs.Lists.{has_put, both, and_true, is_lt, lt_is, rises_put, rises_wider, has_none, none_has}

pub one_longer : {X : Type 0} (xs : List X) (x : X) → length (xs ++ x ∷ []) ≡ suc (length xs)
one_longer xs x = simp length-append (omega arith)

-- ---- behind a list

pub after_pushed : (next : List (Vec ℕ Global)) (v : Vec ℕ Global) (q : ℕ) → v.items ≡ [] → after (next ++ v ∷ []) q ≡ after next q
after_pushed [] v zero e = e
after_pushed [] v (suc q) e = refl
after_pushed (w ∷ next) v zero e = refl
after_pushed (w ∷ next) v (suc q) e = after_pushed next v q e

pub done_pushed : (done : List Bool) (m : ℕ) → done_at (done ++ false ∷ []) m ≡ done_at done m
done_pushed [] zero = refl
done_pushed [] (suc m) = refl
done_pushed (d ∷ done) zero = refl
done_pushed (d ∷ done) (suc m) = done_pushed done m

pub index_front : (xs : List ℕ) (x m : ℕ) → m < length xs → slice_index (xs ++ x ∷ []) m ≡ slice_index xs m
index_front [] x m lt = absurd (omega arith)
index_front (y ∷ xs) x zero lt = refl
index_front (y ∷ xs) x (suc m) lt = index_front xs x m (omega arith)

pub index_last : (xs : List ℕ) (x : ℕ) → slice_index (xs ++ x ∷ []) (length xs) ≡ x
index_last [] x = refl
index_last (y ∷ xs) x = index_last xs x

pub past : (next : List (Vec ℕ Global)) (p : ℕ) → length next ≤ p → after next p ≡ []
past [] p le = refl
past (v ∷ next) zero le = absurd (omega arith)
past (v ∷ next) (suc p) le = past next p (omega arith)

-- ---- how often a number stands in what was added

count_push : (m n : ℕ) (xs : List ℕ) → count_of m (xs ++ n ∷ []) ≡ count_of m xs + one_if (n == m)
count_push m n [] = omega arith
count_push m n (x ∷ xs) = let r = count_push m n xs in omega arith

count_if : (m n : ℕ) (xs : List ℕ) (b : Bool) → n ≢ m → count_of m (if b then xs ++ n ∷ [] else xs) ≡ count_of m xs
count_if m n xs true ne = let c = count_push m n xs in let z : one_if (n == m) ≡ 0 = ap one_if (ne_eqb n m ne) in omega arith
count_if m n xs false ne = refl

pub count_other : (n q m : ℕ) (ps xs : List ℕ) → n ≢ m → count_of m (ends n q ps xs) ≡ count_of m xs
count_other n q m [] xs ne = refl
count_other n q m (p ∷ ps) xs ne = count_other n q m ps (if p == q then xs ++ n ∷ [] else xs) ne ∙ count_if m n xs (p == q) ne

count_here_if : (n : ℕ) (xs : List ℕ) (b : Bool) → count_of n (if b then xs ++ n ∷ [] else xs) ≡ one_if b + count_of n xs
count_here_if n xs true = let c = count_push n n xs in let z : one_if (n == n) ≡ 1 = elim (eqb_tells n n) [ inl is ↦ ap one_if is.0 | inr ne ↦ absurd (ne.1 refl) ] in omega arith
count_here_if n xs false = omega arith

pub count_here : (n q : ℕ) (ps xs : List ℕ) → count_of n (ends n q ps xs) ≡ count_of q ps + count_of n xs
count_here n q [] xs = omega arith
count_here n q (p ∷ ps) xs = let r = count_here n q ps (if p == q then xs ++ n ∷ [] else xs) in let h = count_here_if n xs (p == q) in omega arith

below_push : (n : ℕ) (xs : List ℕ) → all_below n xs ≡ true → all_below (suc n) (xs ++ n ∷ []) ≡ true
below_push n [] e = and_true (nat_lt n (suc n)) true (lt_is n (suc n) (omega arith)) refl
below_push n (x ∷ xs) e = let p = both (nat_lt x n) (all_below n xs) e in and_true (nat_lt x (suc n)) (all_below (suc n) (xs ++ n ∷ [])) (let lt = is_lt x n p.0 in lt_is x (suc n) (omega arith)) (below_push n xs p.1)

pub below_more : (n : ℕ) (xs : List ℕ) → all_below n xs ≡ true → all_below (suc n) xs ≡ true
below_more n [] e = refl
below_more n (x ∷ xs) e = let p = both (nat_lt x n) (all_below n xs) e in and_true (nat_lt x (suc n)) (all_below (suc n) xs) (let lt = is_lt x n p.0 in lt_is x (suc n) (omega arith)) (below_more n xs p.1)

below_again : (n : ℕ) (xs : List ℕ) → all_below (suc n) xs ≡ true → all_below (suc n) (xs ++ n ∷ []) ≡ true
below_again n [] e = and_true (nat_lt n (suc n)) true (lt_is n (suc n) (omega arith)) refl
below_again n (x ∷ xs) e = let p = both (nat_lt x (suc n)) (all_below (suc n) xs) e in and_true (nat_lt x (suc n)) (all_below (suc n) (xs ++ n ∷ [])) p.0 (below_again n xs p.1)

below_if : (n : ℕ) (xs : List ℕ) (b : Bool) → all_below (suc n) xs ≡ true → all_below (suc n) (if b then xs ++ n ∷ [] else xs) ≡ true
below_if n xs true e = below_again n xs e
below_if n xs false e = e

pub below_ends : (n q : ℕ) (ps xs : List ℕ) → all_below (suc n) xs ≡ true → all_below (suc n) (ends n q ps xs) ≡ true
below_ends n q [] xs e = e
below_ends n q (p ∷ ps) xs e = below_ends n q ps (if p == q then xs ++ n ∷ [] else xs) (below_if n xs (p == q) e)

-- ---- whether it stands there

has_is_count : (m : ℕ) (xs : List ℕ) → has m xs ≡ not (nat_eq (count_of m xs) 0)
has_is_count m xs = here (has m xs) refl
  where
    here : (b : Bool) → has m xs ≡ b → has m xs ≡ not (nat_eq (count_of m xs) 0)
    here false e = e ∙ ap (λ (i : ℕ). not (nat_eq i 0)) (sym (none_has m xs e))
    here true e = e ∙ some (count_of m xs) (λ z. let isnt = has_none m xs z in absurd (cc))
      where
        some : (i : ℕ) → i ≢ 0 → true ≡ not (nat_eq i 0)
        some i ne = grind (arith, nat_tests)

pub has_same : (m n : ℕ) (xs ys : List ℕ) → count_of m xs ≡ count_of n ys → has m xs ≡ has n ys
has_same m n xs ys e = has_is_count m xs ∙ ap (λ (i : ℕ). not (nat_eq i 0)) e ∙ sym (has_is_count n ys)

-- ---- how many are open

pub open_same : (next now : ℕ → List ℕ) (done done_now : ℕ → Bool) (m k : ℕ) → ((p : ℕ) → count_of m (now p) ≡ count_of m (next p)) → ((p : ℕ) → done_now p ≡ done p) → open_of now done_now m k ≡ open_of next done m k
open_same next now done done_now m zero e d = refl
open_same next now done done_now m (suc k) e d =
    let rest = open_same next now done done_now m k e d in
    let here = ap (λ (i : ℕ). unless_done (done_now k) i) (e k) ∙ ap (λ (b : Bool). unless_done b (count_of m (next k))) (d k) in omega arith

total : (ℕ → Bool) → (ℕ → ℕ) → ℕ → ℕ
total done f zero = 0
total done f (suc k) = total done f k + unless_done (done k) (f k)

unless_more : (b : Bool) (x y : ℕ) → unless_done b (x + y) ≡ unless_done b x + unless_done b y
unless_more true x y = omega arith
unless_more false x y = refl

unless_zero : (b : Bool) → unless_done b 0 ≡ 0
unless_zero true = refl
unless_zero false = refl

total_more : (done : ℕ → Bool) (f g h : ℕ → ℕ) (k : ℕ) → ((q : ℕ) → h q ≡ f q + g q) → total done h k ≡ total done f k + total done g k
unfolding total
total_more done f g h zero e = refl
total_more done f g h (suc k) e = let r = total_more done f g h k e in let u = ap (unless_done (done k)) (e k) ∙ unless_more (done k) (f k) (g k) in omega arith

total_zero : (done : ℕ → Bool) (f : ℕ → ℕ) (k : ℕ) → ((q : ℕ) → q < k → f q ≡ 0) → total done f k ≡ 0
unfolding total
total_zero done f zero e = refl
total_zero done f (suc k) e = let r = total_zero done f k (λ q lt. e q (omega arith)) in let u = ap (unless_done (done k)) (e k (omega arith)) ∙ unless_zero (done k) in omega arith

total_one : (done : ℕ → Bool) (p k : ℕ) → p < k → total done (λ q. one_if (p == q)) k ≡ unless_done (done p) 1
unfolding total
total_one done p zero lt = absurd (omega arith)
total_one done p (suc k) lt = elim (cases_lt p k) [
  | inl below ↦ let r = total_one done p k below in let u = ap (unless_done (done k)) (ap one_if (ne_eqb p k (λ s. absurd (omega arith)))) ∙ unless_zero (done k) in omega arith
  | inr above ↦
      let same : p ≡ k = omega arith in
      let r = total_zero done (λ q. one_if (p == q)) k (λ q lt_q. ap one_if (ne_eqb p q (λ s. absurd (omega arith)))) in
      let one : one_if (p == k) ≡ 1 = elim (eqb_tells p k) [ inl is ↦ ap one_if is.0 | inr ne ↦ absurd (ne.1 same) ] in
      let u = ap (unless_done (done k)) one ∙ ap (λ (i : ℕ). unless_done (done i) 1) (sym same) in omega arith
]

total_in : (done : ℕ → Bool) (ps : List ℕ) (k : ℕ) → all_below k ps ≡ true → total done (λ q. count_of q ps) k ≡ open_in done ps
total_in done [] k e = total_zero done (λ q. count_of q []) k (λ q lt. refl)
total_in done (p ∷ ps) k e =
    let parts = both (nat_lt p k) (all_below k ps) e in
    let rest = total_in done ps k parts.1 in
    let one = total_one done p k (is_lt p k parts.0) in
    let more = total_more done (λ q. one_if (p == q)) (λ q. count_of q ps) (λ q. count_of q (p ∷ ps)) k (λ q. refl) in omega arith

open_total : (next : ℕ → List ℕ) (done : ℕ → Bool) (f : ℕ → ℕ) (m k : ℕ) → ((q : ℕ) → count_of m (next q) ≡ f q) → open_of next done m k ≡ total done f k
unfolding total
open_total next done f m zero e = refl
open_total next done f m (suc k) e = let r = open_total next done f m k e in let u = ap (unless_done (done k)) (e k) in omega arith

pub open_all : (next : ℕ → List ℕ) (done : ℕ → Bool) (n k : ℕ) (ps : List ℕ) → all_below k ps ≡ true → ((q : ℕ) → count_of n (next q) ≡ count_of q ps) → open_of next done n k ≡ open_in done ps
open_all next done n k ps below e = open_total next done (λ q. count_of q ps) n k e ∙ total_in done ps k below

-- ---- the list

pub listed_more : (n : ℕ) (done now : ℕ → Bool) (old new : ℕ → ℕ) (xs : List ℕ) (due : Bool) → ((m : ℕ) → now m ≡ done m) → done n ≡ false → ((m : ℕ) → m < n → new m ≡ old m) → due ≡ nat_eq (new n) 0 → ((m : ℕ) → has m xs ≡ is_due n done old m)
    → (m : ℕ) → has m (if due then put_in n xs else xs) ≡ is_due (suc n) now new m
listed_more n done now old new xs due same not_yet kept is listed m = elim (eqb_tells n m) [
  | inl here ↦ subst (λ (i : ℕ). has i (if due then put_in n xs else xs) ≡ is_due (suc n) now new i) here.1 (at_n due refl)
  | inr other ↦ of_due due (or_false (n == m) (has m xs) other.0) ∙ listed m ∙ (elim (cases_lt m n) [
    | inl below ↦ ap (λ (b : Bool). b && (not (done m) && nat_eq (old m) 0)) (lt_is m n below ∙ sym (lt_is m (suc n) (omega arith))) ∙ ap (λ (b : Bool). nat_lt m (suc n) && (not b && nat_eq (old m) 0)) (sym (same m)) ∙ ap (λ (i : ℕ). nat_lt m (suc n) && (not (now m) && nat_eq i 0)) (sym (kept m below))
    | inr above ↦ ap (λ (b : Bool). b && (not (done m) && nat_eq (old m) 0)) (lt_not m n above) ∙ sym (ap (λ (b : Bool). b && (not (now m) && nat_eq (new m) 0)) (lt_not m (suc n) (let ne = other.1 in omega arith)))
  ])
]
  where
    or_false : (b : Bool) (c : Bool) → b ≡ false → (b || c) ≡ c
    or_false true c e = absurd (cc)
    or_false false c e = refl

    or_true : (b c : Bool) → b ≡ true → (b || c) ≡ true
    or_true true c e = refl
    or_true false c e = absurd (cc)

    lt_not : (a b : ℕ) → b ≤ a → nat_lt a b ≡ false
    lt_not a b le = grind (arith, nat_tests)

    of_due : (b : Bool) → ((n == m) || has m xs) ≡ has m xs → has m (if b then put_in n xs else xs) ≡ has m xs
    of_due true e = has_put m n xs ∙ e
    of_due false e = refl

    now_due : is_due (suc n) now new n ≡ due
    now_due = ap (λ (b : Bool). b && (not (now n) && nat_eq (new n) 0)) (lt_is n (suc n) (omega arith)) ∙ ap (λ (b : Bool). not b && nat_eq (new n) 0) (same n ∙ not_yet) ∙ sym is

    was_not : has n xs ≡ false
    was_not = listed n ∙ ap (λ (b : Bool). b && (not (done n) && nat_eq (old n) 0)) (lt_not n n (omega arith))

    at_n : (b : Bool) → due ≡ b → has n (if due then put_in n xs else xs) ≡ is_due (suc n) now new n
    at_n true e = ap (λ (b : Bool). has n (if b then put_in n xs else xs)) e ∙ has_put n n xs ∙ or_true (n == n) (has n xs) (elim (eqb_tells n n) [ inl t ↦ t.0 | inr f ↦ absurd (f.1 refl) ]) ∙ sym e ∙ sym now_due
    at_n false e = ap (λ (b : Bool). has n (if b then put_in n xs else xs)) e ∙ was_not ∙ sym e ∙ sym now_due

never_below : (n : ℕ) → nat_lt n n ≡ false
never_below n = grind (arith, nat_tests)

pub not_there : (n : ℕ) (done : ℕ → Bool) (old : ℕ → ℕ) (xs : List ℕ) → ((m : ℕ) → has m xs ≡ is_due n done old m) → has n xs ≡ false
not_there n done old xs listed = listed n ∙ ap (λ (b : Bool). b && (not (done n) && nat_eq (old n) 0)) (never_below n)

pub rises_more : (n : ℕ) (xs : List ℕ) (b : Bool) → rises 0 n xs ≡ true → has n xs ≡ false → rises 0 (suc n) (if b then put_in n xs else xs) ≡ true
rises_more n xs true e isnt = rises_put 0 (suc n) n xs (rises_wider 0 n (suc n) xs e (omega arith)) (omega arith) (omega arith) isnt
rises_more n xs false e isnt = rises_wider 0 n (suc n) xs e (omega arith)
