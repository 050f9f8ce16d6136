use Rattle.std.proofs.Common.{◌≡◌, ◌≢◌, ◌∙◌, ap, sym, subst, ℕ, Bool, false, List, ◌++◌, get_or, Option, Some, None}
use Rattle.std.specs.Prelude.{ℤ, FitsSigned, MatchOption}
use Rattle.std.specs.Int.{w64}
use Rattle.std.specs.Option.{SomeIff}
use Rattle.std.specs.Str.Parse.{digits_value}
use Rattle.gs_proc.specs.Line.{without_end}
use Rattle.gs_proc.specs.Number.{minus, signed, IsShortNumeral, IsNumber}
use Rattle.gs_proc.proofs.Numbers.{says, spells}
use Rattle.gs_proc.proofs.number.number_of.Goals as goal

in_some : (bytes : List ℕ) (negative : Bool) (digits : List ℕ) (value : ℕ) (r : Option ℤ) → without_end bytes ≡ minus negative ++ digits → (negative ≡ false → get_or (without_end bytes) 0 0 ≢ 45) → IsShortNumeral digits → value ≡ digits_value 10 digits → SomeIff r (FitsSigned w64 (signed negative value)) (signed negative value) → MatchOption r ((v : ℤ) → IsNumber bytes v → ⊥) (λ v. IsNumber bytes v)
in_some bytes negative digits value None spelled plain numeral is fits = λ v number.
    let what = says bytes negative digits v spelled plain number in
    fits (subst (FitsSigned w64) (what.value ∙ ap (λ (n : ℕ). signed negative n) (sym is)) what.fits)
in_some bytes negative digits value (Some v) spelled plain numeral is fits =
    let same : v ≡ signed negative (digits_value 10 digits) = fits.1 ∙ ap (λ (n : ℕ). signed negative n) is in
    let small : FitsSigned w64 (signed negative (digits_value 10 digits)) = subst (λ (n : ℕ). FitsSigned w64 (signed negative n)) is fits.0 in
    subst (IsNumber bytes) (sym same) (spells bytes negative digits spelled numeral small)

pub returns-in-Some : goal.returns-in-Some
returns-in-Some c =
    let line = c.without_line_feed.ensures in
    in_some c.args.bytes.now c.split_minus-negative.result.0 c.split_minus-negative.result.1.now c.in-Some.value c.signed.result (sym line ∙ c.split_minus-negative.ensures.spelled) (λ none. subst (λ (xs : List ℕ). get_or xs 0 0 ≢ 45) line (c.split_minus-negative.ensures.plain none)) c.in-Some.ensures.0 c.in-Some.ensures.1 c.signed.ensures

pub returns-in-None : goal.returns-in-None
returns-in-None c = λ v number.
    let line = c.without_line_feed.ensures in
    let what = says c.args.bytes.now c.split_minus-negative.result.0 c.split_minus-negative.result.1.now v (sym line ∙ c.split_minus-negative.ensures.spelled) (λ none. subst (λ (xs : List ℕ). get_or xs 0 0 ≢ 45) line (c.split_minus-negative.ensures.plain none)) number in
    c.in-None.ensures what.numeral
