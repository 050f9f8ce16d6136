use Rattle.std.proofs.Common.{◌⊎◌, inr, map, subst, sym, ap, ◌∙◌, arith, rules, refl, ℕ, ◌+◌, ◌*◌, take, drop}
use Rattle.std.specs.String.{string_bytes}
use Rattle.std.proofs.lemmas.List.{length-map}
use Rattle.gs_words.specs.Words.{limit_of}
use Rattle.gs_words.specs.Given.{HaveGiven, free, IsNumberAt, NoNumberAt, IsNoOption, IsNoNumber}
use Rattle.gs_words.proofs.Choices.{have_next, next_count, free_less}
use Rattle.gs_words.proofs.options.read_options.Goals as goal

pub returns-in_err-n : goal.returns-in_err-n
returns-in_err-n c =
    let words = map string_bytes c.args.words.now.items in
    let e = c.in_err-n.ensures in
    let wrong : NoNumberAt words (4 + 2 * c.options.i + 1) 1 (limit_of c.in_ok-flag.flag) = subst (λ (most : ℕ). NoNumberAt words (4 + 2 * c.options.i + 1) 1 most) c.limit.ensures e.1 in
    let bad : IsNoOption words c.in_err-n.field-0.0.word ⊎ IsNoNumber words c.in_err-n.field-0.0.word = inr (record {
      count = c.options.i;
      place = e.0 ∙ (omega arith);
      given = c.options.given;
      before = c.options.invariant.3;
      flag = c.in_ok-flag.flag;
      flag_there = c.in_ok-flag.ensures;
      wrong = subst (λ (at : ℕ). NoNumberAt words at 1 (limit_of c.in_ok-flag.flag)) (omega arith) wrong;
    }) in
    search rules

pub options-preserved : goal.options-preserved
options-preserved c =
    let words = map string_bytes c.args.words.now.items in
    let many = length-map c.args.words.now.items string_bytes in
    let number : IsNumberAt words (4 + 2 * c.options.i + 1) 1 (limit_of c.in_ok-flag.flag) c.in_ok-n.n = subst (λ (most : ℕ). IsNumberAt words (4 + 2 * c.options.i + 1) 1 most c.in_ok-n.n) c.limit.ensures c.in_ok-n.ensures in
    let next = have_next words c.options.i c.options.given c.in_ok-flag.flag c.in_ok-n.n c.options.invariant.3 c.in_ok-flag.ensures number in
    let count = next_count words c.options.i 1 _ c.in_ok-n.n number in
    let less = free_less c.options.given c.in_ok-flag.flag c.in_ok-n.n c.in_ok-flag.ensures.new in
    let put = c.put.ensures in
    let left = ap free put in
    let three = c.options.invariant.1 in
    (refl, omega (arith, less, left, three), omega (arith, count, many), subst (λ g. HaveGiven (take (2 * (c.options.i + 1)) (drop 4 words)) g) (sym put) next)
