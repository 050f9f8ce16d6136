use Rattle.std.proofs.Common.{◌≡◌, ℕ, zero, suc, ◌+◌, ◌<◌, ◌≤◌, ◌≢◌, ◌⊎◌, inl, inr, arith, refl, ap, sym, ◌∙◌, List, [], ◌∷◌, length, get_or, sum}
use Rattle.std.proofs.lemmas.Bool.{cases_lt}
use Rattle.std.proofs.lemmas.List.Sums.{sum_by-cons}
use Rattle.std.proofs.lemmas.Bool.Decides.{eqb_tells}
use Rattle.gs_plan.specs.Sums.{total_of}

pub total_split : (f g h : ℕ → ℕ) (n : ℕ) → ((k : ℕ) → k < n → f k ≡ g k + h k) → total_of f n ≡ total_of g n + total_of h n
total_split f g h zero e = refl
total_split f g h (suc n) e = omega (arith, e n (omega arith), total_split f g h n (λ k l. e k (omega arith)))

pub total_le : (f g : ℕ → ℕ) (n : ℕ) → ((k : ℕ) → k < n → f k ≤ g k) → total_of f n ≤ total_of g n
total_le f g zero e = omega arith
total_le f g (suc n) e = omega (arith, e n (omega arith), total_le f g n (λ k l. e k (omega arith)))

pub total_same : (f g : ℕ → ℕ) (n : ℕ) → ((k : ℕ) → k < n → f k ≡ g k) → total_of f n ≡ total_of g n
total_same f g zero e = refl
total_same f g (suc n) e = omega (arith, e n (omega arith), total_same f g n (λ k l. e k (omega arith)))

pub total_none : (f : ℕ → ℕ) (n : ℕ) → ((k : ℕ) → k < n → f k ≡ 0) → total_of f n ≡ 0
total_none f zero e = refl
total_none f (suc n) e = omega (arith, e n (omega arith), total_none f n (λ k l. e k (omega arith)))

pub total_one_of : (f : ℕ → ℕ) (n k : ℕ) → k < n → f k ≤ total_of f n
total_one_of f zero k l = absurd (omega arith)
total_one_of f (suc n) k l =
    elim (eqb_tells k n) [
      | inl same ↦ omega (arith, ap f same.1)
      | inr other ↦ let there : k < n = omega (arith, other.1) in omega (arith, total_one_of f n k there)
    ]

-- at most one of the terms is not 0, and that is at most 1
pub total_single : (f : ℕ → ℕ) (n : ℕ) → ((k : ℕ) → k < n → f k ≤ 1) →
    ((i j : ℕ) → i < j → j < n → (f i ≡ 0) ⊎ (f j ≡ 0)) → total_of f n ≤ 1
total_single f zero small alone = omega arith
total_single f (suc n) small alone =
    elim (eqb_tells (f n) 0) [
      | inl none ↦ omega (arith, none.1, total_single f n (λ k l. small k (omega arith)) (λ i j l m. alone i j l (omega arith)))
      | inr some ↦ omega (
        arith,
        some.1,
        small n (omega arith),
        total_none f n (λ k l.
            elim (alone k n l (omega arith)) [ inl here ↦ here | inr there ↦ absurd (omega (arith, some.1)) ]),
      )
    ]

-- one term falls by one
pub total_less : (f g : ℕ → ℕ) (n x : ℕ) → x < n → f x ≡ g x + 1 → ((k : ℕ) → k < n → k ≢ x → f k ≡ g k) → total_of f n ≡ total_of g n + 1
total_less f g zero x l one same = absurd (omega arith)
total_less f g (suc n) x l one same =
    elim (eqb_tells n x) [
      | inl here ↦ omega (arith, ap f here.1, ap g here.1, one, total_same f g n (λ k m. same k (omega arith) (omega (arith, here.1))))
      | inr other ↦ let there : x < n = omega (arith, other.1) in
          omega (arith, same n (omega arith) other.1, total_less f g n x there one (λ k m ne. same k (omega arith) ne))
    ]

-- a sum that is not 0 has a term that is not 0
pub total_some : (f : ℕ → ℕ) (n : ℕ) → 0 < total_of f n → (k : ℕ) × (k < n) × (0 < f k)
total_some f zero h = absurd (omega arith)
total_some f (suc n) h =
    elim (cases_lt 0 (f n)) [
      | inl here ↦ (n, omega arith, here)
      | inr none ↦ let (k, l, some) = total_some f n (omega arith) in (k, omega arith, some)
    ]

-- a sum of terms of at most 1 that is below their number has a term that is 0
pub total_gap : (f : ℕ → ℕ) (n : ℕ) → total_of f n < n → (k : ℕ) × (k < n) × (f k ≡ 0)
total_gap f zero h = absurd (omega arith)
total_gap f (suc n) h =
    elim (cases_lt 0 (f n)) [
      | inl here ↦ let (k, l, none) = total_gap f n (omega arith) in (k, omega arith, none)
      | inr none ↦ (n, omega arith, omega arith)
    ]

total_most : (f : ℕ → ℕ) (n : ℕ) → ((k : ℕ) → k < n → f k ≤ 1) → total_of f n ≤ n
total_most f zero small = omega arith
total_most f (suc n) small = omega (arith, small n (omega arith), total_most f n (λ k l. small k (omega arith)))

-- a sum of terms of at most 1 that is their number has no term that is 0
pub total_whole : (f : ℕ → ℕ) (n : ℕ) → ((k : ℕ) → k < n → f k ≤ 1) → total_of f n ≡ n → (k : ℕ) → k < n → f k ≡ 1
total_whole f zero small whole k l = absurd (omega arith)
total_whole f (suc n) small whole k l =
    let most = total_most f n (λ i m. small i (omega arith)) in
    let last = small n (omega arith) in
    elim (eqb_tells k n) [
      | inl here ↦ omega (arith, ap f here.1)
      | inr other ↦ total_whole f n (λ i m. small i (omega arith)) (omega arith) k (omega (arith, other.1))
    ]

pub total_first : (f : ℕ → ℕ) (n : ℕ) → total_of f (suc n) ≡ f 0 + total_of (λ k. f (suc k)) n
total_first f zero = omega arith
total_first f (suc n) = omega (arith, total_first f n)

pub sum_is_total : (xs : List ℕ) → sum xs ≡ total_of (λ k. get_or xs k 0) (length xs)
sum_is_total [] = refl
sum_is_total (x ∷ xs) =
    let whole : total_of (λ k. get_or (x ∷ xs) k 0) (suc (length xs)) ≡ x + total_of (λ k. get_or xs k 0) (length xs) = total_first (λ k. get_or (x ∷ xs) k 0) (length xs) in
    let first : sum (x ∷ xs) ≡ x + sum xs = sum_by-cons (λ n. n) x xs in
    first ∙ ap (λ n. x + n) (sum_is_total xs) ∙ sym whole
