use Rattle.std.proofs.Common.{◌<◌, ◌+◌, ◌*◌, ◌∙◌, ap, sym, ℕ, get_or, arith}
use Rattle.std.specs.Char.{digit_value}
use Rattle.gs_proc.proofs.Digits.{all_at, value_next, all_next, small_next, small_fits}
use Rattle.gs_proc.proofs.number.digits_of.Goals as goal

pub overflow_mul-value : goal.overflow_mul-value
overflow_mul-value c =
    let next = small_next c.loop-digit.value 0 c.loop-digit.digit-index c.loop-digit.invariant.2 (omega arith) in
    let fits = small_fits (c.loop-digit.value * 10 + 0) (c.loop-digit.digit-index + 1) next (omega arith) in
    omega arith

pub overflow_add-value : goal.overflow_add-value
overflow_add-value c =
    let digit : c.in-Some.more < 10 = omega (arith, c.in-Some.ensures.0, c.in-Some.ensures.1) in
    let next = small_next c.loop-digit.value c.in-Some.more c.loop-digit.digit-index c.loop-digit.invariant.2 digit in
    let fits = small_fits (c.loop-digit.value * 10 + c.in-Some.more) (c.loop-digit.digit-index + 1) next (omega arith) in
    omega arith

pub loop-digit-preserved : goal.loop-digit-preserved
loop-digit-preserved c =
    let digit : c.in-Some.more < 10 = omega (arith, c.in-Some.ensures.0, c.in-Some.ensures.1) in (
      all_next c.args.digits.now c.loop-digit.digit-index c.loop-digit-test.true c.loop-digit.invariant.0 c.in-Some.ensures.0,
      ap (λ (d : ℕ). c.loop-digit.value * 10 + d) c.in-Some.ensures.1 ∙ ap (λ (v : ℕ). v * 10 + digit_value (get_or c.args.digits.now c.loop-digit.digit-index 0)) c.loop-digit.invariant.1 ∙ sym (value_next c.args.digits.now c.loop-digit.digit-index c.loop-digit-test.true),
      small_next c.loop-digit.value c.in-Some.more c.loop-digit.digit-index c.loop-digit.invariant.2 digit,
    )

pub returns-in-None : goal.returns-in-None
returns-in-None c = λ numeral. c.in-None.ensures (all_at c.args.digits.now c.loop-digit.digit-index numeral.all c.loop-digit-test.true)
