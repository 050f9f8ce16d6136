use Rattle.std.proofs.Common.{◌≡◌, ◌++◌, map, drop}
use Rattle.gs_tree.specs.View.{var_of}
use Rattle.gs_pieces.specs.Notes.{notes_of}
use Rattle.gs_pieces.proofs.var_notes.notes.Given as goal

abbrev pub invariant-loop-i : goal.invariant-loop-i
invariant-loop-i l = l.all.items ++ notes_of (map var_of (drop l.i l.vars)) (drop l.i l.slots) ≡ notes_of (map var_of l.vars) l.slots
