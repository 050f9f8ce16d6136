-- The place of a number in a rising list.
use Rattle.std.proofs.Common.{◌≡◌, ◌≢◌, ℕ, zero, suc, ◌<◌, ◌≤◌, Bool, true, false, List, [], ◌∷◌, length, get_or, refl, sym, ap, ◌∙◌, arith, inl, inr, if◌then◌else◌, nat_lt}
use Rattle.std.specs.Prelude.{◌==◌, not, insert, remove}
use Rattle.std.proofs.lemmas.Bool.{cases_lt, ne_eqb}
use Rattle.std.proofs.lemmas.Bool.Decides.{eqb_tells, nat_tests}
use Rattle.gs_graph.specs.Numbers.{rises, put_in, without}
use Rattle.gs_graph.proofs.Lists.{rises_parts, lt_is}

at_least : (low high : ℕ) (xs : List ℕ) (k : ℕ) → rises low high xs ≡ true → k < length xs → low ≤ get_or xs k 0
at_least low high [] k e lt = absurd (omega arith)
at_least low high (x ∷ xs) zero e lt = (rises_parts low high x xs e).above
at_least low high (x ∷ xs) (suc k) e lt =
    let p = rises_parts low high x xs e in
    let a = p.above in
    let h = at_least (suc x) high xs k p.rest (omega arith) in omega arith

pub rises_before : (low high : ℕ) (xs : List ℕ) (i j : ℕ) → rises low high xs ≡ true → i < j → j < length xs → get_or xs i 0 < get_or xs j 0
rises_before low high [] i j e lt within = absurd (omega arith)
rises_before low high (x ∷ xs) i zero e lt within = absurd (omega arith)
rises_before low high (x ∷ xs) zero (suc j) e lt within = at_least (suc x) high xs j (rises_parts low high x xs e).rest (omega arith)
rises_before low high (x ∷ xs) (suc i) (suc j) e lt within = rises_before (suc x) high xs i j (rises_parts low high x xs e).rest (omega arith) (omega arith)

pub rises_until : (low high : ℕ) (xs : List ℕ) → rises low high xs ≡ true → (i j : ℕ) → i ≤ j → j < length xs → get_or xs i 0 ≤ get_or xs j 0
rises_until low high xs e i j le within = elim (cases_lt i j) [
  | inl lt ↦ let h = rises_before low high xs i j e lt within in omega arith
  | inr ge ↦ let same : i ≡ j = omega arith in let h = ap (λ (k : ℕ). get_or xs k 0) same in omega arith
]

not_below : (n x : ℕ) → x ≤ n → nat_lt n x ≡ false
not_below n x le = grind (arith, nat_tests)

-- behind what is no greater, and before what is greater
pub put_at : (n : ℕ) (xs : List ℕ) (i : ℕ) → i ≤ length xs → ((k : ℕ) → k < i → get_or xs k 0 ≤ n) → ((k : ℕ) → i ≤ k → k < length xs → n < get_or xs k 0) → insert xs i n ≡ put_in n xs
put_at n [] zero le low high = refl
put_at n [] (suc i) le low high = absurd (omega arith)
put_at n (x ∷ xs) zero le low high =
    sym (ap (λ (t : Bool). if t then n ∷ x ∷ xs else x ∷ put_in n xs) (lt_is n x (high 0 (omega arith) (omega arith))))
put_at n (x ∷ xs) (suc i) le low high =
    ap (λ (ys : List ℕ). x ∷ ys) (put_at n xs i (omega arith) (λ k lt. low (suc k) (omega arith)) (λ k ge lt. high (suc k) (omega arith) (omega arith)))
    ∙ sym (ap (λ (t : Bool). if t then n ∷ x ∷ xs else x ∷ put_in n xs) (not_below n x (low 0 (omega arith))))

-- a number that isn't there
pub none_out : (n : ℕ) (xs : List ℕ) → ((k : ℕ) → k < length xs → get_or xs k 0 ≢ n) → without n xs ≡ xs
none_out n [] isnt = refl
none_out n (x ∷ xs) isnt =
    ap (λ (t : Bool). if not t then x ∷ without n xs else without n xs) (ne_eqb x n (isnt 0 (omega arith)))
    ∙ ap (λ (ys : List ℕ). x ∷ ys) (none_out n xs (λ k lt. isnt (suc k) (omega arith)))

-- and one that is
pub out_at : (n low high : ℕ) (xs : List ℕ) (i : ℕ) → rises low high xs ≡ true → i < length xs → get_or xs i 0 ≡ n → remove xs i ≡ without n xs
out_at n low high [] i e lt at = absurd (omega arith)
out_at n low high (x ∷ xs) zero e lt at =
    let p = rises_parts low high x xs e in
    let is : (x == n) ≡ true = elim (eqb_tells x n) [ inl same ↦ same.0 | inr ne ↦ absurd (ne.1 at) ] in
    sym (none_out n xs (λ k within s. let h = at_least (suc x) high xs k p.rest within in absurd (omega arith)))
    ∙ sym (ap (λ (t : Bool). if not t then x ∷ without n xs else without n xs) is)
out_at n low high (x ∷ xs) (suc i) e lt at =
    let p = rises_parts low high x xs e in
    let above = at_least (suc x) high xs i p.rest (omega arith) in
    ap (λ (ys : List ℕ). x ∷ ys) (out_at n (suc x) high xs i p.rest (omega arith) at)
    ∙ sym (ap (λ (t : Bool). if not t then x ∷ without n xs else without n xs) (ne_eqb x n (λ s. absurd (omega arith))))
