use Rattle.std.proofs.Common.{◌≡◌, ◌≤◌, ◌+◌, drop}
use Rattle.gs_graph.specs.Edges.{open_in, done_at}
use Rattle.gs_graph.proofs.edges.open_count.Given as goal

abbrev pub invariant-loop-p : goal.invariant-loop-p
invariant-loop-p l = (l.open + open_in (done_at l.done) (drop l.p-index l.producers) ≡ open_in (done_at l.done) l.producers) × (l.open ≤ l.p-index)
