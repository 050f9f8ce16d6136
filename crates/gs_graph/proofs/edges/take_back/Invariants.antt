use Rattle.std.proofs.Common.{◌≡◌, ◌≤◌, ℕ, List, length, drop}
use Rattle.std.specs.Prelude.{vec_capacity}
use Rattle.gs_graph.specs.Edges.{after, ends}
use Rattle.gs_graph.proofs.edges.take_back.Given as goal

abbrev pub invariant-loop-p : goal.invariant-loop-p
invariant-loop-p l = record {
  edges : (q n : ℕ) (xs : List ℕ) → after l.fn.next.items q ≡ ends n q l.producers xs → after l.next.items q ≡ ends n q (drop l.p-index l.producers) xs;
  capacity : vec_capacity l.fn.next ≤ vec_capacity l.next;
  len : length l.next.items ≡ length l.fn.next.items;
}
