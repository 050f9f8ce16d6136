use Rattle.std.proofs.Common.{◌≡◌, ◌<◌, ℕ, Some}
use Rattle.std.specs.Prelude.{slice_get}
use Rattle.gs_tables.specs.Table.{followers_of}
use Rattle.gs_core.specs.Freed.{ListsFreed, IsListedIfOpen}
use Rattle.gs_core.proofs.starting.list_freed.Given as goal

abbrev pub invariant-loop-i : goal.invariant-loop-i
invariant-loop-i l = record {
  more : ListsFreed l.tables l.fn.queue l.queue;
  full : (j m : ℕ) → j < l.i → slice_get (followers_of l.tables l.fn.n) j ≡ Some m → IsListedIfOpen l.tables l.fn.queue l.queue m;
}
