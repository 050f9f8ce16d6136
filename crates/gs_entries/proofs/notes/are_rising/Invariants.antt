use Rattle.std.proofs.Common.{◌≡◌, drop}
use Rattle.gs_entries.specs.Notes.{rising}
use Rattle.gs_entries.proofs.notes.are_rising.Given as goal

abbrev pub invariant-loop-out : goal.invariant-loop-out
invariant-loop-out l = rising l.low (drop l.out-index l.outs) ≡ rising 0 l.outs
