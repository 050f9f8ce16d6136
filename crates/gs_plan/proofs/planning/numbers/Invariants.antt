use Rattle.std.proofs.Common.{◌≡◌, suc, map, reverse, take}
use Rattle.gs_plan.proofs.planning.numbers.Given as goal

abbrev pub invariant-loop-i : goal.invariant-loop-i
invariant-loop-i l = l.numbers.items ≡ map suc (take l.i (reverse l.back))
