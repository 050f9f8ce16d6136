-- Lines with and without their ends.
use Rattle.std.proofs.Common.{◌≡◌, ℕ, ◌<◌, ◌≤◌, zero, suc, Bool, true, false, refl, ap, sym, ◌∙◌, subst, List, [], ◌∷◌, ◌++◌, length, take, get_or, inl, inr, arith, if◌then◌else◌}
use Rattle.std.specs.Prelude.{◌==◌}
use Rattle.std.proofs.lemmas.Bool.Decides.{eqb_tells}
use Rattle.std.specs.Char.{digit_value}
use Rattle.std.specs.Str.Parse.{AllDigits}
use Rattle.gs_proc.specs.Line.{without_end}
use Rattle.gs_proc.specs.Number.{minus, line_feed}

pub cut : (bytes : List ℕ) (i : ℕ) → suc i ≡ length bytes → (get_or bytes i 0 == 10) ≡ true → take i bytes ≡ without_end bytes
cut [] i e feed = absurd (omega arith)
cut (b ∷ []) zero e feed = sym (ap (λ (t : Bool). if t then [] else (b ∷ [])) feed)
cut (b ∷ []) (suc i) e feed = absurd (omega arith)
cut (b ∷ c ∷ bytes) zero e feed = absurd (omega arith)
cut (b ∷ c ∷ bytes) (suc i) e feed = let less : suc i ≡ length (c ∷ bytes) = omega arith in ap (λ (xs : List ℕ). b ∷ xs) (cut (c ∷ bytes) i less feed)

pub uncut : (bytes : List ℕ) (i : ℕ) → suc i ≡ length bytes → (get_or bytes i 0 == 10) ≡ false → bytes ≡ without_end bytes
uncut [] i e other = absurd (omega arith)
uncut (b ∷ []) zero e other = sym (ap (λ (t : Bool). if t then [] else (b ∷ [])) other)
uncut (b ∷ []) (suc i) e other = absurd (omega arith)
uncut (b ∷ c ∷ bytes) zero e other = absurd (omega arith)
uncut (b ∷ c ∷ bytes) (suc i) e other = let less : suc i ≡ length (c ∷ bytes) = omega arith in ap (λ (xs : List ℕ). b ∷ xs) (uncut (c ∷ bytes) i less other)

-- what was cut is a line feed or nothing
pub whole : (bytes : List ℕ) → (ended : Bool) × (bytes ≡ without_end bytes ++ line_feed ended)
whole [] = (false, refl)
whole (b ∷ []) = elim (eqb_tells b 10) [
  | inl same ↦ (true, ap (λ (x : ℕ). x ∷ []) same.1 ∙ sym (ap (λ (t : Bool). (if t then [] else (b ∷ [])) ++ line_feed true) same.0))
  | inr other ↦ (false, sym (ap (λ (t : Bool). (if t then [] else (b ∷ [])) ++ line_feed false) other.0))
]
whole (b ∷ c ∷ bytes) = let rest = whole (c ∷ bytes) in (rest.0, ap (λ (xs : List ℕ). b ∷ xs) rest.1)

-- a line of digits, with a minus in front or none, is what is left of it with an end
not_feed : (d : ℕ) → digit_value d < 10 → (d == 10) ≡ false
not_feed d lt = elim (eqb_tells d 10) [
  | inl same ↦ let no : digit_value 10 < 10 = subst (λ (x : ℕ). digit_value x < 10) same.1 lt in absurd (omega arith)
  | inr other ↦ other.0
]

digits_left : (digits : List ℕ) (ended : Bool) → 1 ≤ length digits → AllDigits 10 digits → without_end (digits ++ line_feed ended) ≡ digits
digits_left [] ended some all = absurd (omega arith)
digits_left (d ∷ []) true some all = ap (λ (xs : List ℕ). d ∷ xs) refl
digits_left (d ∷ []) false some all = ap (λ (t : Bool). if t then [] else (d ∷ [])) (not_feed d all.0)
digits_left (d ∷ e ∷ digits) ended some all = let more : 1 ≤ length (e ∷ digits) = omega arith in ap (λ (xs : List ℕ). d ∷ xs) (digits_left (e ∷ digits) ended more all.1)

pub line_left : (negative : Bool) (digits : List ℕ) (ended : Bool) → 1 ≤ length digits → AllDigits 10 digits → without_end (minus negative ++ (digits ++ line_feed ended)) ≡ minus negative ++ digits
line_left true [] ended some all = absurd (omega arith)
line_left true (d ∷ digits) ended some all = ap (λ (xs : List ℕ). 45 ∷ xs) (digits_left (d ∷ digits) ended some all)
line_left false digits ended some all = digits_left digits ended some all
