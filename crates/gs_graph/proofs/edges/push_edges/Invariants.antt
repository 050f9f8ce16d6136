use Rattle.std.proofs.Common.{◌≡◌, ◌≤◌, ℕ, length, take}
use Rattle.std.specs.Prelude.{vec_capacity}
use Rattle.gs_graph.specs.Edges.{after, ends}
use Rattle.gs_graph.proofs.edges.push_edges.Given as goal

abbrev pub invariant-loop-i : goal.invariant-loop-i
invariant-loop-i l = record {
  edges : (q : ℕ) → after l.next.items q ≡ ends l.n q (take l.i l.producers) (after l.fn.next.items q);
  capacity : vec_capacity l.fn.next ≤ vec_capacity l.next;
  len : length l.next.items ≡ length l.fn.next.items;
}
