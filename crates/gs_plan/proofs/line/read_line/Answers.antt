use Rattle.std.proofs.Common.{ℕ, ap, ◌∙◌}
use Rattle.std.specs.Prelude.{◌==◌}
use Rattle.gs_list.specs.Lines.{HasWords, HasBadByte, spelled}
use Rattle.gs_plan.specs.Durations.{bad_byte, bad_line, nothing}
use Rattle.gs_plan.proofs.Giving.{of_none, of_some, no_words, some_words}
use Rattle.gs_plan.proofs.line.read_line.Goals as goal

pub returns-in_default-clause-line : goal.returns-in_default-clause-line
returns-in_default-clause-line c =
    bad_byte (of_none c.in_ok-words.field-0 (HasBadByte c.args.line.now) (λ v. HasWords c.args.line.now (spelled v.items)) c.in_ok-words.ensures c.in_default.is)

pub returns-then-is_empty-clause-line : goal.returns-then-is_empty-clause-line
returns-then-is_empty-clause-line c =
    let has = of_some c.in_ok-words.field-0 (HasBadByte c.args.line.now) (λ v. HasWords c.args.line.now (spelled v.items)) c.in-Some.words c.in_ok-words.ensures c.in-Some.is in
    nothing c.args.given.now.items (no_words c.args.line.now c.in-Some.words.items has (c.if-is_empty.ensures ∙ ap (λ (n : ℕ). n == 0) c.in-Some.words.ok.0))

pub returns-in_default-pair_of-clause-line : goal.returns-in_default-pair_of-clause-line
returns-in_default-pair_of-clause-line c =
    let has = of_some c.in_ok-words.field-0 (HasBadByte c.args.line.now) (λ v. HasWords c.args.line.now (spelled v.items)) c.in-Some.words c.in_ok-words.ensures c.in-Some.is in
    bad_line (spelled c.in-Some.words.items) has (some_words c.in-Some.words.items (c.if-is_empty.ensures ∙ ap (λ (n : ℕ). n == 0) c.in-Some.words.ok.0))
    (λ name digits e. c.in_default-pair_of.ensures name digits (ap spelled c.as_slice.ensures.value ∙ e))
