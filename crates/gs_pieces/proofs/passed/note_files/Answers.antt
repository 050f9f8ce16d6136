use Rattle.std.proofs.Common.{◌+◌, drop, ap, sym, ◌∙◌}
use Rattle.gs_talk.specs.Talk.{files_in, with_names}
use Rattle.gs_pieces.proofs.Passing.{files_more}
use Rattle.gs_pieces.proofs.passed.note_files.Goals as goal

pub loop-j-preserved : goal.loop-j-preserved
loop-j-preserved c =
    ap (λ names. with_names names (files_in (drop (c.loop-j.j + 1) c.args.args.now))) c.in_ok-note_file.ensures
    ∙ sym (files_more c.loop-j.names.keys c.args.args.now c.loop-j.j c.index-args-j.result c.loop-j-test.true c.index-args-j.is)
    ∙ c.loop-j.invariant
