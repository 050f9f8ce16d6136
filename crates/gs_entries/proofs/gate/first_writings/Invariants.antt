use Rattle.std.proofs.Common.{◌≤◌, length}
use Rattle.gs_entries.specs.Gate.{FirstFrom}
use Rattle.gs_entries.proofs.gate.first_writings.Given as goal

abbrev pub invariant-loop-at : goal.invariant-loop-at
invariant-loop-at l = record {
  within : l.at ≤ length l.written;
  so_far : FirstFrom l.written l.at l.count l.places.items;
}

abbrev pub decreases-loop-at : goal.decreases-loop-at
decreases-loop-at l = l.at
