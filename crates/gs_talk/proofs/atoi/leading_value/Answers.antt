use Rattle.std.proofs.Common.{◌≡◌, ◌∙◌, sym, ap, drop, get_or, arith}
use Rattle.std.proofs.lemmas.List.{at_drop_all}
use Rattle.gs_talk.proofs.Digits.{capped, longer, value_from, stops_at, goes_on_at}
use Rattle.gs_talk.proofs.atoi.leading_value.Goals as goal

pub returns-then-not-is_digit : goal.returns-then-not-is_digit
returns-then-not-is_digit c =
    let ends : value_from c.loop-b.value (drop c.loop-b.b-index c.args.text.now) ≡ c.loop-b.value =
    stops_at c.args.text.now c.loop-b.b-index c.loop-b.value c.loop-b-test.true (sym c.is_digit.ensures ∙ c.if-not-is_digit.true) in
    let small : c.loop-b.value ≡ capped c.loop-b.value = omega (arith, c.loop-b.invariant.small) in
    small ∙ sym (ap capped ends) ∙ c.loop-b.invariant.value

pub loop-b-preserved : goal.loop-b-preserved
loop-b-preserved c =
    let next : capped c.saturating_add-value.result ≡ capped (longer c.loop-b.value (get_or c.args.text.now c.loop-b.b-index 0)) =
    omega (arith, c.saturating_mul.ensures, c.saturating_sub.ensures, c.from.ensures, c.saturating_add-value.ensures) in
    record {
      value =
          goes_on_at c.args.text.now c.loop-b.b-index c.loop-b.value c.saturating_add-value.result c.loop-b-test.true (sym c.is_digit.ensures ∙ c.if-not-is_digit.false) next
          ∙ c.loop-b.invariant.value;
      small = c.saturating_add-value.type_inv;
    }

pub returns : goal.returns
returns c =
    let ends : value_from c.loop-b.value (drop c.loop-b.b-index c.args.text.now) ≡ c.loop-b.value = at_drop_all (value_from c.loop-b.value) c.args.text.now c.loop-b.b-index c.loop-b-test.false in
    let small : c.loop-b.value ≡ capped c.loop-b.value = omega (arith, c.loop-b.invariant.small) in
    small ∙ sym (ap capped ends) ∙ c.loop-b.invariant.value
