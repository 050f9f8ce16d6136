use Rattle.std.proofs.Common.{reverse, take}
use Rattle.gs_plan.specs.Scan.{ScannedOf}
use Rattle.gs_plan.proofs.scan.ties_of.Given as goal

abbrev pub invariant-loop-at : goal.invariant-loop-at
invariant-loop-at l = ScannedOf (reverse (take l.at l.actions)) l.scan
