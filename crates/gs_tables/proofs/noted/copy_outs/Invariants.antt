use Rattle.std.proofs.Common.{◌≡◌, take}
use Rattle.gs_tables.proofs.noted.copy_outs.Given as goal

abbrev pub invariant-loop-out : goal.invariant-loop-out
invariant-loop-out l = l.copies ≡ take l.out-index l.outs
