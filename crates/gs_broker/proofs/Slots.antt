-- The decimals of the numbers that a worker may have slots.
use Rattle.std.proofs.Common.{◌≡◌, ℕ, ◌+◌, ◌-◌, ◌/◌, ◌%◌, ◌≤◌, List, [], ◌∷◌, ◌++◌, length, slice_index_or, refl, sym, ap, ◌∙◌, arith, inl, inr, ◌⊎◌}
use Rattle.std.specs.Fmt.{decimal}
use Rattle.std.specs.Str.Parse.{digits_value}
use Rattle.std.proofs.lemmas.Fmt.{decimal_digit, decimal_step, decimal_is_IsNumeral}
use Rattle.std.proofs.lemmas.Bool.{cases_lt}
use Rattle.gs_broker.specs.Text.{IsSlots}

two_digits : (k : ℕ) → k ≤ 6 → decimal (10 + k) ≡ 49 ∷ (48 + k) ∷ []
two_digits k le =
    let tens : (10 + k) / 10 ≡ 1 = omega arith in
    let ones : (10 + k) % 10 ≡ k = omega arith in
    decimal_step (10 + k) (omega arith) (omega arith)
    ∙ ap (λ (q : ℕ). decimal q ++ (48 + (10 + k) % 10) ∷ []) tens
    ∙ ap (λ (ds : List ℕ). ds ++ (48 + (10 + k) % 10) ∷ []) (decimal_digit 1 (omega arith))
    ∙ ap (λ (d : ℕ). 49 ∷ (48 + d) ∷ []) ones

one_item : (w : List ℕ) → length w ≡ 1 → w ≡ slice_index_or w 0 0 ∷ []
one_item [] e = absurd (omega arith)
one_item (x ∷ []) e = refl
one_item (x ∷ y ∷ w) e = absurd (omega arith)

two_items : (w : List ℕ) → length w ≡ 2 → w ≡ slice_index_or w 0 0 ∷ slice_index_or w 1 0 ∷ []
two_items [] e = absurd (omega arith)
two_items (x ∷ []) e = absurd (omega arith)
two_items (x ∷ y ∷ []) e = refl
two_items (x ∷ y ∷ z ∷ w) e = absurd (omega arith)

-- one digit
pub short_slots : (w : List ℕ) → length w ≡ 1 → 49 ≤ slice_index_or w 0 0 → slice_index_or w 0 0 ≤ 57 → IsSlots w (slice_index_or w 0 0 - 48)
short_slots w e low high = record {
  some = omega arith;
  few = omega arith;
  spelled = one_item w e ∙ ap (λ (d : ℕ). d ∷ []) (let n : slice_index_or w 0 0 ≡ 48 + (slice_index_or w 0 0 - 48) = omega arith in n) ∙ sym (decimal_digit (slice_index_or w 0 0 - 48) (omega arith));
}

-- two digits
pub long_slots : (w : List ℕ) → length w ≡ 2 → slice_index_or w 0 0 ≡ 49 → 48 ≤ slice_index_or w 1 0 → slice_index_or w 1 0 ≤ 54 → IsSlots w (10 + (slice_index_or w 1 0 - 48))
long_slots w e one low high = record {
  some = omega arith;
  few = omega arith;
  spelled =
      let n : slice_index_or w 1 0 ≡ 48 + (slice_index_or w 1 0 - 48) = omega arith in
      two_items w e ∙ ap (λ (d : ℕ). d ∷ slice_index_or w 1 0 ∷ []) one ∙ ap (λ (d : ℕ). 49 ∷ d ∷ []) n ∙ sym (two_digits (slice_index_or w 1 0 - 48) (omega arith));
}

-- and there are no others
pub slots_shape : (w : List ℕ) (n : ℕ) → IsSlots w n → ((length w ≡ 1) × (49 ≤ slice_index_or w 0 0) × (slice_index_or w 0 0 ≤ 57)) ⊎ ((length w ≡ 2) × (slice_index_or w 0 0 ≡ 49) × (48 ≤ slice_index_or w 1 0) × (slice_index_or w 1 0 ≤ 54))
slots_shape w n is = elim (cases_lt n 10) [
  | inl lt ↦
      let e = is.spelled ∙ decimal_digit n lt in
      let len = ap length e in
      let first = ap (λ (v : List ℕ). slice_index_or v 0 0) e in
      let some = is.some in inl (len, omega arith, omega arith)
  | inr ge ↦
      let few = is.few in
      let k : n ≡ 10 + (n - 10) = omega arith in
      let e = is.spelled ∙ ap decimal k ∙ two_digits (n - 10) (omega arith) in
      let len = ap length e in
      let first = ap (λ (v : List ℕ). slice_index_or v 0 0) e in
      let second = ap (λ (v : List ℕ). slice_index_or v 1 0) e in inr (len, first, omega arith, omega arith)
]

-- a word spells one number
pub slots_one : (w : List ℕ) (m n : ℕ) → IsSlots w m → IsSlots w n → m ≡ n
slots_one w m n p q =
    let a = p.few in
    let b = q.few in
    let at_m = decimal_is_IsNumeral m (omega arith) in
    let at_n = decimal_is_IsNumeral n (omega arith) in
    sym at_m.1 ∙ ap (digits_value 10) (sym p.spelled ∙ q.spelled) ∙ at_n.1
