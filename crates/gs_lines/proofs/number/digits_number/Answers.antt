use Rattle.std.proofs.Common.{◌≡◌, ◌<◌, ◌+◌, ◌*◌, ◌∙◌, ap, sym, subst, ℕ, get_or, take, arith, Some}
use Rattle.std.specs.Char.{digit_value}
use Rattle.std.specs.Str.Parse.{AllDigits, digits_value}
use Rattle.std.proofs.lemmas.Int.Digits.{digits_value_more}
use Rattle.std.proofs.lemmas.List.{take_all}
use Rattle.gs_lines.proofs.Digits.{IsShort, small_next, small_fits, digits_say, others_say_none, all_at, all_next}
use Rattle.gs_lines.proofs.number.digits_number.Goals as goal

pub overflow_mul-value : goal.overflow_mul-value
overflow_mul-value c =
    let next = small_next c.loop-digit.value 0 c.loop-digit.digit-index c.loop-digit.invariant.2
    (omega arith) in
    let fits = small_fits (c.loop-digit.value * 10 + 0) (c.loop-digit.digit-index + 1) next (omega
    arith) in
    omega arith

pub overflow_add-value : goal.overflow_add-value
overflow_add-value c =
    let digit : c.in_ok-value.field-0 < 10 = omega (
      arith,
      c.in_ok-value.ensures.0,
      c.in_ok-value.ensures.1,
    ) in
    let next = small_next c.loop-digit.value c.in_ok-value.field-0 c.loop-digit.digit-index
    c.loop-digit.invariant.2 digit in
    let fits = small_fits (c.loop-digit.value * 10 + c.in_ok-value.field-0)
    (c.loop-digit.digit-index + 1) next (omega arith) in
    omega arith

pub loop-digit-preserved : goal.loop-digit-preserved
loop-digit-preserved c =
    let digits = c.args.digits.now in
    let i = c.loop-digit.digit-index in
    let here = c.in_ok-value.ensures in
    let digit : c.in_ok-value.field-0 < 10 = omega (arith, here.0, here.1) in (
      all_next digits i c.loop-digit-test.true c.loop-digit.invariant.0 here.0,
      ap (λ (d : ℕ). c.loop-digit.value * 10 + d) here.1 ∙ ap (λ (v : ℕ). v * 10 + digit_value
          (get_or digits i 0)) c.loop-digit.invariant.1 ∙ sym (digits_value_more 10 digits i
          c.loop-digit-test.true),
      small_next c.loop-digit.value c.in_ok-value.field-0 i c.loop-digit.invariant.2 digit,
    )

pub returns-in_err-value : goal.returns-in_err-value
returns-in_err-value c =
    let digits = c.args.digits.now in
    let never : IsShort digits → ⊥ = λ is. c.in_err-value.ensures (all_at digits
    c.loop-digit.digit-index is.all c.loop-digit-test.true) in
    c.from_residual.ensures ∙ others_say_none digits never

pub returns : goal.returns
returns c =
    let digits = c.args.digits.now in
    let whole : take c.loop-digit.digit-index digits ≡ digits = take_all c.loop-digit.digit-index
    digits (omega arith) in
    ap (λ (v : ℕ). Some v) (c.loop-digit.invariant.1 ∙ ap (digits_value 10) whole)
    ∙ digits_say digits (grind arith) (omega arith) (subst (AllDigits 10) whole
    c.loop-digit.invariant.0)
