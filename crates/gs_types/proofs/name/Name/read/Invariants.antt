use Rattle.std.proofs.Common.{◌≤◌}
use Rattle.gs_types.specs.Name.{GoesTo}
use Rattle.gs_types.proofs.name.Name.read.Given as goal

abbrev pub invariant-loop-at : goal.invariant-loop-at
invariant-loop-at l = record { short : l.at ≤ 200; allowed : GoesTo l.bytes l.at }
