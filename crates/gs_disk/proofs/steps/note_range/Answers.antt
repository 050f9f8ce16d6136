use Rattle.std.proofs.Common.{◌∙◌, ap, subst}
use Rattle.std.specs.Prelude.{IsTrue}
use Rattle.gs_disk.specs.declared.now.Now.{Now}
use Rattle.gs_disk.proofs.steps.note_range.Goals as goal
use Rattle.gs_disk.proofs.steps.note_range.Goals.{in-Err, in_default}

pub returns-clause-kept : goal.returns-clause-kept
returns-clause-kept c = elim c.match-keep_range.branch [
  | in-Err w ↦ λ is. absurd (cc (is, c.take_since-before.ensures.is_whole, ap (λ (n : Now). n.is_whole) w.now-is))
  | in_default w ↦ λ is.
      let k = w.in_default.ensures.kept in (
        subst IsTrue (c.take_since-before.ensures.is_whole ∙ ap (λ (n : Now). n.is_whole) w.now-is ∙ ap (λ (n : Now). n.is_whole) c.keep_range.ensures.rest) is,
        record {
          file = k.file;
          stood = k.stood;
          before = k.before;
          part = k.part;
          touched = ap (λ v. v.items) c.take_since-before.ensures.touched ∙ ap (λ (n : Now). n.touched.items) w.now-is ∙ k.touched;
        },
      )
]
