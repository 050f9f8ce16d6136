-- Which bytes are 1 to 19 digits.
use Rattle.std.proofs.Common.{◌≡◌, ℕ, ◌+◌, ◌*◌, ◌^◌, ◌<◌, ◌≤◌, zero, suc, Bool, true, leb, ap, sym, subst, List, [], ◌∷◌, ◌++◌, length, take, get_or, Some, None, inl, inr, add-one, arith, if◌then◌else◌}
use Rattle.std.specs.Prelude.{◌&&◌}
use Rattle.std.proofs.Math.Nat.{pow-le-pow_right}
use Rattle.std.proofs.Math.Seq.{take-suc}
use Rattle.std.specs.Char.{digit_value}
use Rattle.std.proofs.lemmas.Bool.{cases_Bool, and_parts, and_from, leb-true, le-leb}
use Rattle.std.proofs.lemmas.Str.Parse.{IsNumeralModel, numerals_by_value, tells_all_ascii_digits}
use Rattle.std.specs.Str.{all_ascii_digits}
use Rattle.std.specs.Str.Parse.{AllDigits, digits_value}
use Rattle.gs_lines.specs.Number.{is_short_numeral, digits_number}

pub small_next : (v d i : ℕ) → v < 10 ^ i → d < 10 → v * 10 + d < 10 ^ (i + 1)
small_next v d i lt less = rw add-one (omega arith)

pub small_fits : (v i : ℕ) → v < 10 ^ i → i ≤ 19 → v < 10 ^ 19
small_fits v i lt le =
    let ten : 0 < 10 = omega arith in
    let most : 10 ^ i ≤ 10 ^ 19 = pow-le-pow_right ten le in
    omega arith

abbrev model : IsNumeralModel (λ ds. all_ascii_digits ds ≡ true) (digits_value 10)
model = numerals_by_value (λ ds. all_ascii_digits ds ≡ true) tells_all_ascii_digits

short : (ds : List ℕ) → 1 ≤ length ds → length ds ≤ 19 → AllDigits 10 ds → is_short_numeral ds ≡
    true
short ds some few all =
    and_from (leb 1 (length ds)) _ (le-leb _ _ some)
    (and_from (leb (length ds) 19) _ (le-leb _ _ few) (model.from ds all))

-- what short digits say
pub digits_say : (ds : List ℕ) → 1 ≤ length ds → length ds ≤ 19 → AllDigits 10 ds → Some
    (digits_value 10 ds) ≡ digits_number ds
digits_say ds some few all = sym (ap (λ (b : Bool). if b then Some (digits_value 10 ds) else None)
    (short ds some few all))

pub record IsShort (ds : List ℕ) : Type 0 where
  pub some : 1 ≤ length ds
  pub few : length ds ≤ 19
  pub all : AllDigits 10 ds

is_short : (ds : List ℕ) → is_short_numeral ds ≡ true → IsShort ds
is_short ds is =
    let a = and_parts (leb 1 (length ds)) (leb (length ds) 19 && all_ascii_digits ds) is in
    let b = and_parts (leb (length ds) 19) (all_ascii_digits ds) a.1 in
    record { some = leb-true _ _ a.0; few = leb-true _ _ b.0; all = model.to ds b.1 }

-- other bytes say nothing
pub others_say_none : (ds : List ℕ) → (IsShort ds → ⊥) → None ≡ digits_number ds
others_say_none ds never = elim (cases_Bool (is_short_numeral ds)) [
  | inl is ↦ absurd (never (is_short ds is))
  | inr isnt ↦ sym (ap (λ (b : Bool). if b then Some (digits_value 10 ds) else None) isnt)
]

-- ---- digit after digit

all_push : (ds : List ℕ) (d : ℕ) → AllDigits 10 ds → digit_value d < 10 → AllDigits 10 (ds ++ d ∷
    [])
all_push [] d all here = (here, all)
all_push (x ∷ ds) d all here = (all.0, all_push ds d all.1 here)

pub all_at : (ds : List ℕ) (i : ℕ) → AllDigits 10 ds → i < length ds → digit_value (get_or ds i 0) <
    10
all_at [] i all lt = absurd (omega arith)
all_at (x ∷ ds) zero all lt = all.0
all_at (x ∷ ds) (suc i) all lt = all_at ds i all.1 (omega arith)

pub all_next : (ds : List ℕ) (i : ℕ) → i < length ds → AllDigits 10 (take i ds) → digit_value
    (get_or ds i 0) < 10 → AllDigits 10 (take (i + 1) ds)
all_next ds i lt all here = rw add-one (subst (AllDigits 10) (sym (take-suc ds i 0 lt)) (all_push
    (take i ds) (get_or ds i 0) all here))
