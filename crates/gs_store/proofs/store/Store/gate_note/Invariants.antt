use Rattle.std.proofs.Common.{◌≡◌, drop}
use Rattle.gs_store.specs.Ordered.{gate_in}
use Rattle.gs_store.proofs.store.Store.gate_note.Given as goal

abbrev pub invariant-loop-e : goal.invariant-loop-e
invariant-loop-e l = gate_in (drop l.e-index l.self.entries) ≡ gate_in l.self.entries
