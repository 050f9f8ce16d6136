use Rattle.std.proofs.Common.{take}
use Rattle.gs_proc.specs.Places.{GiveAll}
use Rattle.gs_proc.proofs.outs.outs_of.Given as goal

abbrev pub invariant-loop-i : goal.invariant-loop-i
invariant-loop-i g l = GiveAll (take l.i l.places) l.outs.items
