use Rattle.std.proofs.Common.{◌≡◌, drop}
use Rattle.gs_talk.specs.Talk.{files_in, with_names}
use Rattle.gs_pieces.proofs.passed.note_files.Given as goal

abbrev pub invariant-loop-j : goal.invariant-loop-j
invariant-loop-j l = with_names l.names.keys (files_in (drop l.j l.args)) ≡ with_names l.fn.names.keys (files_in l.args)
