use Rattle.std.proofs.Common.{◌<◌, Some, ap, sym, ◌∙◌, length, arith}
use Rattle.std.proofs.lemmas.Option.{slice_get_read}
use Rattle.gs_plan.specs.Durations.{duration, unknown_op, bad_number, twice}
use Rattle.gs_plan.proofs.Giving.{is_some_of, is_none_of}
use Rattle.gs_plan.proofs.line.give.Goals as goal

pub returns-in_default-clause-line : goal.returns-in_default-clause-line
returns-in_default-clause-line c = λ line has. unknown_op c.args.pair.now.name.now c.args.pair.now.digits.now has (sym c.in_default.ensures.first)

pub returns-in_default-duration_in-clause-line : goal.returns-in_default-duration_in-clause-line
returns-in_default-duration_in-clause-line c = λ line has.
    bad_number c.args.pair.now.name.now c.args.pair.now.digits.now c.in-Some.op has (sym c.in-Some.ensures.first) c.in_default-duration_in.ensures

pub returns-then-is_some-clause-line : goal.returns-then-is_some-clause-line
returns-then-is_some-clause-line c = λ line has.
    let inside : c.in-Some.op < length c.args.given.now.items = omega (arith, c.in-Some.ensures.within) in
    let there = slice_get_read c.args.given.now.items (length c.args.given.now.items) c.in-Some.op c.index.result.now (omega arith) inside c.index.ensures in
    let (e, is) = is_some_of c.index.result.now c.if-is_some.ensures in
    twice c.args.pair.now.name.now c.args.pair.now.digits.now c.in-Some.op c.in-Some-duration_in.d e has (sym c.in-Some.ensures.first) c.in-Some-duration_in.ensures (there ∙ ap (λ o. Some o) is)

pub returns-clause-line : goal.returns-clause-line
returns-clause-line c = λ line has.
    let inside : c.in-Some.op < length c.args.given.now.items = omega (arith, c.in-Some.ensures.within) in
    let there = slice_get_read c.args.given.now.items (length c.args.given.now.items) c.in-Some.op c.index.result.now (omega arith) inside c.index.ensures in
    duration c.args.given.now.items c.args.pair.now.name.now c.args.pair.now.digits.now c.in-Some.op c.in-Some-duration_in.d has (sym c.in-Some.ensures.first) c.in-Some-duration_in.ensures
    (there ∙ ap (λ o. Some o) (is_none_of c.index.result.now c.if-is_some.ensures))
