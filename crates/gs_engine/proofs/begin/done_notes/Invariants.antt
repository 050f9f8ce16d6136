use Rattle.std.proofs.Common.{◌≡◌, take}
use Rattle.gs_engine.specs.Beginning.{notes_in}
use Rattle.gs_engine.proofs.begin.done_notes.Given as goal

abbrev pub invariant-loop-index : goal.invariant-loop-index
invariant-loop-index l = l.notes.items ≡ notes_in 0 (take l.index l.store.entries)
