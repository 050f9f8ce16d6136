use Rattle.std.proofs.Common.{◌≡◌, take}
use Rattle.gs_tables.proofs.gating.ended.Given as goal

abbrev pub invariant-loop-a : goal.invariant-loop-a
invariant-loop-a l = l.made ≡ take l.a-index l.actions
