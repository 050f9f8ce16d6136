use Rattle.std.proofs.Common.{ap, ◌∙◌, length, take, ℕ, arith}
use Rattle.std.proofs.lemmas.Bool.{lt-ltb}
use Rattle.gs_talk.specs.Talk.{files_in}
use Rattle.gs_pieces.proofs.Passing.{names_cut}
use Rattle.gs_pieces.proofs.passed.note_within.Goals as goal

pub returns-then-len-gt-NAME_LIMIT : goal.returns-then-len-gt-NAME_LIMIT
returns-then-len-gt-NAME_LIMIT c = (
  c.truncate.ensures.keys
      ∙ ap (λ (n : ℕ). take n c.note_files.new.names.keys) c.len-count.ensures.len
      ∙ names_cut (files_in c.args.args.now) c.args.names.now.keys c.note_files.new.names.keys c.in_ok-note_files.ensures,
  lt-ltb _ _ (let e = ap length c.in_ok-note_files.ensures in omega (arith, e, c.len.ensures.len, c.if-len-gt-NAME_LIMIT.true)),
)
