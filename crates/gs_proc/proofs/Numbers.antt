-- What a line of a number says.
use Rattle.std.proofs.Common.{◌≡◌, ◌≢◌, ℕ, ◌<◌, Bool, true, false, refl, ap, sym, ◌∙◌, subst, List, ◌∷◌, ◌++◌, get_or, arith, append_assoc}
use Rattle.std.specs.Prelude.{ℤ, FitsSigned}
use Rattle.std.specs.Int.{w64}
use Rattle.std.specs.Char.{digit_value}
use Rattle.std.specs.Str.Parse.{AllDigits, digits_value}
use Rattle.gs_proc.specs.Line.{without_end}
use Rattle.gs_proc.specs.Number.{minus, line_feed, signed, IsShortNumeral, IsNumber}
use Rattle.gs_proc.proofs.Lines.{whole, line_left}

no_minus : (digits : List ℕ) → AllDigits 10 (45 ∷ digits) → ⊥
no_minus digits all = let no : digit_value 45 < 10 = all.0 in absurd (omega arith)

-- a line has one sign and one list of digits
pub same_parts : (negative sign : Bool) (digits ds : List ℕ) → (negative ≡ false → get_or (minus negative ++ digits) 0 0 ≢ 45) → minus negative ++ digits ≡ minus sign ++ ds → AllDigits 10 ds → (negative ≡ sign) × (digits ≡ ds)
same_parts true true digits ds plain e all = (refl, cc)
same_parts true false digits ds plain e all = absurd (no_minus digits (subst (AllDigits 10) (sym e) all))
same_parts false true digits ds plain e all = absurd (plain refl (ap (λ (xs : List ℕ). get_or xs 0 0) e))
same_parts false false digits ds plain e all = (refl, e)

-- what a number's bytes say of the parts that they were split into
pub record Says (negative : Bool) (digits : List ℕ) (v : ℤ) : Type 0 where
  pub numeral : IsShortNumeral digits
  pub value : v ≡ signed negative (digits_value 10 digits)
  pub fits : FitsSigned w64 v

pub says : (bytes : List ℕ) (negative : Bool) (digits : List ℕ) (v : ℤ) → without_end bytes ≡ minus negative ++ digits → (negative ≡ false → get_or (without_end bytes) 0 0 ≢ 45) → IsNumber bytes v → Says negative digits v
says bytes negative digits v spelled plain is =
    let left : without_end bytes ≡ minus is.negative ++ is.digits = ap without_end is.spelled ∙ line_left is.negative is.digits is.ended is.numeral.some is.numeral.all in
    let plainly : negative ≡ false → get_or (minus negative ++ digits) 0 0 ≢ 45 = λ none. subst (λ (xs : List ℕ). get_or xs 0 0 ≢ 45) spelled (plain none) in
    let parts = same_parts negative is.negative digits is.digits plainly (sym spelled ∙ left) is.numeral.all in
    record {
      numeral = subst IsShortNumeral (sym parts.1) is.numeral;
      value = is.value ∙ ap (λ (s : Bool). signed s (digits_value 10 is.digits)) (sym parts.0) ∙ ap (λ (ds : List ℕ). signed negative (digits_value 10 ds)) (sym parts.1);
      fits = is.fits;
    }

pub spells : (bytes : List ℕ) (negative : Bool) (digits : List ℕ) → without_end bytes ≡ minus negative ++ digits → IsShortNumeral digits → FitsSigned w64 (signed negative (digits_value 10 digits)) → IsNumber bytes (signed negative (digits_value 10 digits))
spells bytes negative digits spelled numeral fits =
    let all = whole bytes in
    record {
      negative = negative;
      digits = digits;
      ended = all.0;
      numeral = numeral;
      spelled = all.1 ∙ ap (λ (xs : List ℕ). xs ++ line_feed all.0) spelled ∙ append_assoc (minus negative) digits (line_feed all.0);
      value = refl;
      fits = fits;
    }
