use Rattle.std.proofs.Common.{◌≡◌, ◌-◌, length, drop}
use Rattle.gs_store.specs.Ordered.{gate_in}
use Rattle.gs_verbs.proofs.planned.gate_index.Given as goal

abbrev pub invariant-loop-e : goal.invariant-loop-e
invariant-loop-e l = gate_in (drop l.i l.store.entries) ≡ gate_in l.store.entries

abbrev pub decreases-loop-e : goal.decreases-loop-e
decreases-loop-e l = length l.store.entries - l.i
