use Rattle.std.proofs.Common.{◌≡◌, take}
use Rattle.gs_keep.proofs.notes.copy_notes.Given as goal

abbrev pub invariant-loop-note : goal.invariant-loop-note
invariant-loop-note l = l.copy ≡ take l.note-index l.notes
