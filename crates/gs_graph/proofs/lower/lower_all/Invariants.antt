use Rattle.std.proofs.Common.{◌≡◌, ◌≤◌, ◌+◌, ℕ, length, drop, slice_index, true}
use Rattle.std.specs.Prelude.{vec_capacity}
use Rattle.gs_graph.specs.Numbers.{has, rises, count_of}
use Rattle.gs_graph.specs.Edges.{done_at, is_due}
use Rattle.gs_graph.proofs.lower.lower_all.Given as goal

abbrev pub invariant-loop-s : goal.invariant-loop-s
invariant-loop-s l = record {
  len : length l.missing.items ≡ length l.fn.missing.items;
  counts : (m : ℕ) → slice_index l.missing.items m + count_of m l.next ≡ slice_index l.fn.missing.items m + count_of m (drop l.s-index l.next);
  rising : rises 0 (length l.fn.missing.items) l.ready.items ≡ true;
  listed : (m : ℕ) → has m l.ready.items ≡ is_due (length l.fn.missing.items) (done_at l.done) (slice_index l.missing.items) m;
  room : length l.fn.missing.items ≤ vec_capacity l.ready;
}
