-- Lists of numbers.
use Rattle.std.proofs.Common.{◌≡◌, ◌≢◌, ◌<◌, ◌≤◌, ◌+◌, ℕ, zero, suc, Bool, true, false, refl, sym, ap, ◌∙◌, List, [], ◌∷◌, length, arith, nat_lt, if◌then◌else◌, inl, inr, ◌⊎◌, get_or, subst, slice_index, Some}
use Rattle.std.specs.List.{slice_get}
use Rattle.std.specs.Prelude.{◌&&◌, ◌||◌, not, ◌==◌}
use Rattle.std.proofs.lemmas.Bool.{ne_eqb}
use Rattle.std.proofs.lemmas.Bool.Decides.{nat_tests, eqb_tells}
use Rattle.gs_graph.specs.Numbers.{has, one_if, count_of, rises, put_in, without}
use Rattle.gs_graph.specs.Edges.{all_below}

pub both : (a b : Bool) → (a && b) ≡ true → (a ≡ true) × (b ≡ true)
both true true e = (refl, refl)
both true false e = absurd (cc)
both false b e = absurd (cc)

pub and_true : (a b : Bool) → a ≡ true → b ≡ true → (a && b) ≡ true
and_true true b x y = y
and_true false b x y = absurd (cc)

not_lt : (a b : ℕ) → not (nat_lt a b) ≡ true → b ≤ a
not_lt a b e = grind (arith, nat_tests)

lt_not : (a b : ℕ) → b ≤ a → not (nat_lt a b) ≡ true
lt_not a b le = grind (arith, nat_tests)

pub is_lt : (a b : ℕ) → nat_lt a b ≡ true → a < b
is_lt a b e = grind (arith, nat_tests)

pub lt_is : (a b : ℕ) → a < b → nat_lt a b ≡ true
lt_is a b lt = grind (arith, nat_tests)

pub split_or : (a b : Bool) → (a || b) ≡ false → (a ≡ false) × (b ≡ false)
split_or true b e = absurd (cc)
split_or false b e = (refl, e)

-- ---- how often

pub has_none : (m : ℕ) (xs : List ℕ) → count_of m xs ≡ 0 → has m xs ≡ false
has_none m [] e = refl
has_none m (x ∷ xs) e = here (x == m) refl (has_none m xs (omega arith))
  where
    here : (t : Bool) → (x == m) ≡ t → has m xs ≡ false → (t || has m xs) ≡ false
    here true is rest = let one : one_if (x == m) ≡ 1 = ap one_if is in absurd (omega arith)
    here false is rest = rest

pub none_has : (m : ℕ) (xs : List ℕ) → has m xs ≡ false → count_of m xs ≡ 0
none_has m [] e = refl
none_has m (x ∷ xs) e = let o = split_or (x == m) (has m xs) e in let z : one_if (x == m) ≡ 0 = ap one_if o.0 in let r = none_has m xs o.1 in omega arith

pub below_none : (n m : ℕ) (xs : List ℕ) → all_below n xs ≡ true → n ≤ m → count_of m xs ≡ 0
below_none n m [] e le = refl
below_none n m (x ∷ xs) e le =
    let p = both (nat_lt x n) (all_below n xs) e in
    let lt = is_lt x n p.0 in
    let ne : one_if (x == m) ≡ 0 = ap one_if (ne_eqb x m (λ s. absurd (omega arith))) in
    let r = below_none n m xs p.1 le in omega arith

pub below_at : (n : ℕ) (xs : List ℕ) (i d : ℕ) → all_below n xs ≡ true → i < length xs → get_or xs i d < n
below_at n [] i d e lt = absurd (omega arith)
below_at n (x ∷ xs) zero d e lt = is_lt x n (both (nat_lt x n) (all_below n xs) e).0
below_at n (x ∷ xs) (suc i) d e lt = below_at n xs i d (both (nat_lt x n) (all_below n xs) e).1 (omega arith)

-- ---- has

pub has_put : (m n : ℕ) (xs : List ℕ) → has m (put_in n xs) ≡ ((n == m) || has m xs)
has_put m n [] = refl
has_put m n (x ∷ xs) = here (nat_lt n x) (has_put m n xs)
  where
    swap : (a b c : Bool) → (a || (b || c)) ≡ (b || (a || c))
    swap true true c = refl
    swap true false c = refl
    swap false true c = refl
    swap false false c = refl

    here : (t : Bool) → has m (put_in n xs) ≡ ((n == m) || has m xs) → has m (if t then n ∷ x ∷ xs else x ∷ put_in n xs) ≡ ((n == m) || ((x == m) || has m xs))
    here true rest = refl
    here false rest = ap (λ (b : Bool). (x == m) || b) rest ∙ swap (x == m) (n == m) (has m xs)

pub has_without : (m n : ℕ) (xs : List ℕ) → has m (without n xs) ≡ (if n == m then false else has m xs)
has_without m n [] = none (n == m)
  where
    none : (t : Bool) → false ≡ (if t then false else false)
    none true = refl
    none false = refl
has_without m n (x ∷ xs) = here (x == n) (eqb_tells x n) (n == m) (eqb_tells n m) (x == m) (eqb_tells x m) (has_without m n xs)
  where
    here : (a : Bool) → ((a ≡ true) × (x ≡ n)) ⊎ ((a ≡ false) × (x ≢ n)) → (b : Bool) → ((b ≡ true) × (n ≡ m)) ⊎ ((b ≡ false) × (n ≢ m)) → (c : Bool) → ((c ≡ true) × (x ≡ m)) ⊎ ((c ≡ false) × (x ≢ m)) → has m (without n xs) ≡ (if b then false else has m xs)
        → has m (if not a then x ∷ without n xs else without n xs) ≡ (if b then false else (c || has m xs))
    here true p true q c r rest = rest
    here true p false q false r rest = rest
    here true (inl p) false (inr q) true (inl r) rest = absurd (q.1 (sym p.1 ∙ r.1))
    here true (inr p) false q true r rest = absurd (let e = p.0 in cc)
    here true (inl p) false (inl q) true r rest = absurd (let e = q.0 in cc)
    here true (inl p) false (inr q) true (inr r) rest = absurd (let e = r.0 in cc)
    here false p true q c r rest = of_test (x == m) (eqb_tells x m) p q
      where
        of_test : (t : Bool) → ((t ≡ true) × (x ≡ m)) ⊎ ((t ≡ false) × (x ≢ m)) → ((false ≡ true) × (x ≡ n)) ⊎ ((false ≡ false) × (x ≢ n)) → ((true ≡ true) × (n ≡ m)) ⊎ ((true ≡ false) × (n ≢ m)) → (t || has m (without n xs)) ≡ false
        of_test t (inl s) (inl p) q = absurd (let e = p.0 in cc)
        of_test t (inl s) (inr p) (inl q) = absurd (p.1 (s.1 ∙ sym q.1))
        of_test t (inl s) (inr p) (inr q) = absurd (let e = q.0 in cc)
        of_test true (inr s) p q = absurd (let e = s.0 in cc)
        of_test false (inr s) p q = rest
    here false p false q c r rest = of_test (x == m) (eqb_tells x m) c r
      where
        of_test : (t : Bool) → ((t ≡ true) × (x ≡ m)) ⊎ ((t ≡ false) × (x ≢ m)) → (c : Bool) → ((c ≡ true) × (x ≡ m)) ⊎ ((c ≡ false) × (x ≢ m)) → (t || has m (without n xs)) ≡ (c || has m xs)
        of_test true s true r = refl
        of_test false s false r = rest
        of_test true (inl s) false (inl r) = absurd (let e = r.0 in cc)
        of_test true (inl s) false (inr r) = absurd (r.1 s.1)
        of_test true (inr s) false r = absurd (let e = s.0 in cc)
        of_test false (inl s) true r = absurd (let e = s.0 in cc)
        of_test false (inr s) true (inl r) = absurd (s.1 r.1)
        of_test false (inr s) true (inr r) = absurd (let e = r.0 in cc)

-- ---- rising

pub record Rises (low high x : ℕ) (xs : List ℕ) : Type 0 where
  pub above : low ≤ x
  pub under : x < high
  pub rest : rises (suc x) high xs ≡ true

pub rises_parts : (low high x : ℕ) (xs : List ℕ) → rises low high (x ∷ xs) ≡ true → Rises low high x xs
rises_parts low high x xs e =
    let a = both (not (nat_lt x low)) (nat_lt x high && rises (suc x) high xs) e in
    let b = both (nat_lt x high) (rises (suc x) high xs) a.1 in
    record { above = not_lt x low a.0; under = is_lt x high b.0; rest = b.1 }

rises_of : (low high x : ℕ) (xs : List ℕ) → low ≤ x → x < high → rises (suc x) high xs ≡ true → rises low high (x ∷ xs) ≡ true
rises_of low high x xs above under rest = and_true (not (nat_lt x low)) (nat_lt x high && rises (suc x) high xs) (lt_not x low above) (and_true (nat_lt x high) (rises (suc x) high xs) (lt_is x high under) rest)

pub rises_length : (low high : ℕ) (xs : List ℕ) → rises low high xs ≡ true → low ≤ high → length xs + low ≤ high
rises_length low high [] e le = omega arith
rises_length low high (x ∷ xs) e le = let p = rises_parts low high x xs e in let a = p.above in let b = p.under in let h = rises_length (suc x) high xs p.rest (omega arith) in omega arith

rises_lower : (less low high : ℕ) (xs : List ℕ) → rises low high xs ≡ true → less ≤ low → rises less high xs ≡ true
rises_lower less low high [] e le = refl
rises_lower less low high (x ∷ xs) e le = let p = rises_parts low high x xs e in let a = p.above in rises_of less high x xs (omega arith) p.under p.rest

pub rises_wider : (low high more : ℕ) (xs : List ℕ) → rises low high xs ≡ true → high ≤ more → rises low more xs ≡ true
rises_wider low high more [] e le = refl
rises_wider low high more (x ∷ xs) e le = let p = rises_parts low high x xs e in let b = p.under in rises_of low more x xs p.above (omega arith) (rises_wider (suc x) high more xs p.rest le)

pub rises_without : (low high n : ℕ) (xs : List ℕ) → rises low high xs ≡ true → rises low high (without n xs) ≡ true
rises_without low high n [] e = refl
rises_without low high n (x ∷ xs) e = let p = rises_parts low high x xs e in here (not (x == n)) (rises_without (suc x) high n xs p.rest) p.above p.under
  where
    here : (t : Bool) → rises (suc x) high (without n xs) ≡ true → low ≤ x → x < high → rises low high (if t then x ∷ without n xs else without n xs) ≡ true
    here true rest above under = rises_of low high x (without n xs) above under rest
    here false rest above under = rises_lower low (suc x) high (without n xs) rest (omega arith)

differ : (x n : ℕ) → (x == n) ≡ false → x ≢ n
differ x n e same = elim (eqb_tells x n) [ inl is ↦ let a = is.0 in absurd (cc) | inr ne ↦ ne.1 same ]

pub rises_put : (low high n : ℕ) (xs : List ℕ) → rises low high xs ≡ true → low ≤ n → n < high → has n xs ≡ false → rises low high (put_in n xs) ≡ true
rises_put low high n [] e above under apart = rises_of low high n [] above under refl
rises_put low high n (x ∷ xs) e above under apart = let p = rises_parts low high x xs e in let o = split_or (x == n) (has n xs) apart in here (nat_lt n x) refl p.above p.under p.rest (differ x n o.0) (λ le. rises_put (suc x) high n xs p.rest le under o.1)
  where
    here : (t : Bool) → nat_lt n x ≡ t → low ≤ x → x < high → rises (suc x) high xs ≡ true → x ≢ n → (suc x ≤ n → rises (suc x) high (put_in n xs) ≡ true) → rises low high (if t then n ∷ x ∷ xs else x ∷ put_in n xs) ≡ true
    here true is a b rest ne later = let lt = is_lt n x is in rises_of low high n (x ∷ xs) above under (rises_of (suc n) high x xs (omega arith) b rest)
    here false is a b rest ne later =
        let ge : x ≤ n = grind (arith, nat_tests) in
        let gt : suc x ≤ n = omega arith in
        rises_of low high x (put_in n xs) a b (later gt)

pub put_length : (xs : List ℕ) (n : ℕ) → length (put_in n xs) ≡ length xs + 1
put_length [] n = refl
put_length (x ∷ xs) n = here (nat_lt n x) (put_length xs n)
  where
    here : (t : Bool) → length (put_in n xs) ≡ length xs + 1 → length (if t then n ∷ x ∷ xs else x ∷ put_in n xs) ≡ length (x ∷ xs) + 1
    here true h = omega arith
    here false h = omega arith

-- what holds of each number of a list holds of each number that stands there
covered : (ps qs : List ℕ) (room : ℕ → ℕ) → ((j : ℕ) → j < length ps → count_of (slice_index ps j) qs ≤ room (slice_index ps j)) → (q : ℕ) → has q ps ≡ true → count_of q qs ≤ room q
covered [] qs room each q is = absurd (cc)
covered (x ∷ ps) qs room each q is = here (x == q) (eqb_tells x q) is (covered ps qs room (λ j lt. each (suc j) (omega arith)) q)
  where
    here : (t : Bool) → ((t ≡ true) × (x ≡ q)) ⊎ ((t ≡ false) × (x ≢ q)) → (t || has q ps) ≡ true → (has q ps ≡ true → count_of q qs ≤ room q) → count_of q qs ≤ room q
    here t (inl e) is later = let P : ℕ → Type 0 = λ i. count_of i qs ≤ room i in subst P e.1 (each 0 (omega arith))
    here true (inr e) is later = absurd (let a = e.0 in cc)
    here false (inr e) is later = later is

-- room for each number of a list, as often as it stands there
pub covers : (ps : List ℕ) (room : ℕ → ℕ) → ((j : ℕ) → j < length ps → count_of (slice_index ps j) ps ≤ room (slice_index ps j)) → (q : ℕ) → count_of q ps ≤ room q
covers ps room each q = here (has q ps) refl
  where
    here : (t : Bool) → has q ps ≡ t → count_of q ps ≤ room q
    here true is = covered ps ps room each q is
    here false is = let none = none_has q ps is in omega arith

-- an item of a rising list is below its bound
pub rises_at : (low high : ℕ) (xs : List ℕ) (i m : ℕ) → rises low high xs ≡ true → slice_get xs i ≡ Some m → m < high
rises_at low high [] i m e at = absurd (cc)
rises_at low high (x ∷ xs) zero m e at = let p = rises_parts low high x xs e in let u = p.under in let same : x ≡ m = cc in omega arith
rises_at low high (x ∷ xs) (suc i) m e at = let p = rises_parts low high x xs e in rises_at (suc x) high xs i m p.rest at
