-- How many tasks were never started.
use Rattle.std.proofs.Common.{◌≡◌, ◌<◌, ◌≤◌, ◌+◌, ℕ, zero, suc, Bool, true, false, refl, sym, ap, ◌∙◌, subst, arith, if◌then◌else◌, inl, inr, ◌⊎◌}
use Rattle.std.specs.Prelude.{◌==◌}
use Rattle.std.proofs.lemmas.Bool.{cases_lt}
use Rattle.std.proofs.lemmas.Bool.Decides.{eqb_tells}
use Rattle.gs_queue.specs.Numbered.{unknown, one_unless}

one : (b : Bool) → one_unless b ≤ 1
one true = omega arith
one false = omega arith

pub unknown_most : (known : ℕ → Bool) (n : ℕ) → unknown known n ≤ n
unknown_most known zero = omega arith
unknown_most known (suc n) = let h = unknown_most known n in let b = one (known (suc n)) in omega arith

unknown_some : (known : ℕ → Bool) (n m : ℕ) → 0 < m → m ≤ n → known m ≡ false → 0 < unknown known n
unknown_some known zero m pos le e = absurd (omega arith)
unknown_some known (suc n) m pos le e = elim (cases_lt m (suc n)) [
  | inl below ↦ let h = unknown_some known n m pos (omega arith) e in omega arith
  | inr above ↦ let same : m ≡ suc n = omega arith in let b : one_unless (known (suc n)) ≡ 1 = ap one_unless (ap known (sym same) ∙ e) in omega arith
]

-- one more is known
one_less : (known now : ℕ → Bool) (m i : ℕ) → now i ≡ (if m == i then true else known i) → one_unless (now i) ≤ one_unless (known i)
one_less known now m i e = elim (eqb_tells m i) [
  | inl is ↦ let b : one_unless (now i) ≡ 0 = ap one_unless (e ∙ ap (λ (t : Bool). if t then true else known i) is.0) in omega arith
  | inr ne ↦ let b : one_unless (now i) ≡ one_unless (known i) = ap one_unless (e ∙ ap (λ (t : Bool). if t then true else known i) ne.0) in omega arith
]

unknown_less : (known now : ℕ → Bool) (n m : ℕ) → ((i : ℕ) → now i ≡ (if m == i then true else known i)) → unknown now n ≤ unknown known n
unknown_less known now zero m e = omega arith
unknown_less known now (suc n) m e = let h = unknown_less known now n m e in let b = one_less known now m (suc n) (e (suc n)) in omega arith

here_less : (known now : ℕ → Bool) (n : ℕ) → now n ≡ (if n == n then true else known n) → known n ≡ false → one_unless (now n) + 1 ≤ one_unless (known n)
here_less known now n e none = elim (eqb_tells n n) [
  | inl is ↦ let a : one_unless (now n) ≡ 0 = ap one_unless (e ∙ ap (λ (t : Bool). if t then true else known n) is.0) in let b : one_unless (known n) ≡ 1 = ap one_unless none in omega arith
  | inr ne ↦ absurd (ne.1 refl)
]

unknown_fewer : (known now : ℕ → Bool) (n m : ℕ) → ((i : ℕ) → now i ≡ (if m == i then true else known i)) → 0 < m → m ≤ n → known m ≡ false → unknown now n + 1 ≤ unknown known n
unknown_fewer known now zero m e pos le none = absurd (omega arith)
unknown_fewer known now (suc n) m e pos le none = elim (cases_lt m (suc n)) [
  | inl below ↦ let h = unknown_fewer known now n m e pos (omega arith) none in let b = one_less known now m (suc n) (e (suc n)) in omega arith
  | inr above ↦
      let same : m ≡ suc n = omega arith in
      let h = unknown_less known now n m e in
      let b = here_less known now (suc n) (subst (λ (i : ℕ). now (suc n) ≡ (if i == suc n then true else known (suc n))) same (e (suc n))) (ap known (sym same) ∙ none) in omega arith
]

-- what is left after a start
pub started_spare : (known now : ℕ → Bool) (n m was left : ℕ) (b : Bool) → known m ≡ b → ((i : ℕ) → now i ≡ (if m == i then true else known i)) → 0 < m → m ≤ n → unknown known n ≤ was → was ≤ left + 1 → (known m ≡ true → was ≤ left) → unknown now n ≤ left
started_spare known now n m was left true is e pos le enough less again = let h = unknown_less known now n m e in let a = again is in omega arith
started_spare known now n m was left false is e pos le enough less again = let h = unknown_fewer known now n m e pos le is in omega arith

-- there is room for a start
pub room : (known : ℕ → Bool) (n m was : ℕ) (b : Bool) → known m ≡ b → 0 < m → m ≤ n → unknown known n ≤ was → (0 < was) ⊎ (known m ≡ true)
room known n m was true is pos le enough = inr is
room known n m was false is pos le enough = inl (let h = unknown_some known n m pos le is in omega arith)
