use Rattle.std.proofs.Common.{◌<◌, ◌≤◌, ℕ}
use Rattle.gs_core.specs.Freed.{ListsFreed, IsListedIfOpen}
use Rattle.gs_core.proofs.starting.list_all.Given as goal

abbrev pub invariant-loop-i : goal.invariant-loop-i
invariant-loop-i l = record {
  more : ListsFreed l.tables l.fn.queue l.queue;
  full : (m : ℕ) → 0 < m → m ≤ l.i → IsListedIfOpen l.tables l.fn.queue l.queue m;
}
