use Rattle.std.proofs.Common.{◌≡◌, [], drop}
use Rattle.gs_entries.specs.Gate.{distinct_after}
use Rattle.gs_entries.proofs.gate.are_distinct.Given as goal

abbrev pub invariant-loop-name : goal.invariant-loop-name
invariant-loop-name l = distinct_after l.seen.keys (drop l.name-index l.names) ≡ distinct_after [] l.names
