use Rattle.std.proofs.Common.{ℕ, sym, ap, ◌∙◌}
use Rattle.std.specs.Prelude.{◌==◌}
use Rattle.gs_broker.specs.Text.{bad_byte, bad_line, nothing}
use Rattle.gs_broker.specs.Reading.{spelled}
use Rattle.gs_broker.specs.Listed.{entries_in}
use Rattle.gs_broker.proofs.Lines.{no_words, some_words}
use Rattle.gs_broker.proofs.reader.read_line.Goals as goal

pub returns-then-not-may_all_stand : goal.returns-then-not-may_all_stand
returns-then-not-may_all_stand c = bad_byte c.before_comment-content.result.now c.before_comment-content.ensures (sym c.if-not-may_all_stand.ensures)

pub returns-then-is_empty : goal.returns-then-is_empty
returns-then-is_empty c =
    nothing (entries_in c.args.workers.now) (record {
      content = c.before_comment-content.result.now;
      before = c.before_comment-content.ensures;
      parted = no_words c.before_comment-content.result.now c.in_ok-words.words.items c.in_ok-words.ensures (c.if-is_empty.ensures ∙ ap (λ (n : ℕ). n == 0) c.in_ok-words.words.ok.0);
    })

pub returns-in_default : goal.returns-in_default
returns-in_default c =
    bad_line (spelled c.in_ok-words.words.items) (record {
      content = c.before_comment-content.result.now;
      before = c.before_comment-content.ensures;
      parted = c.in_ok-words.ensures;
    })
    (some_words c.in_ok-words.words.items (c.if-is_empty.ensures ∙ ap (λ (n : ℕ). n == 0) c.in_ok-words.words.ok.0))
    (λ p e. c.in_default.ensures.form p (ap spelled c.as_slice.ensures.value ∙ e))
