use Rattle.std.proofs.Common.{arith, length}
use Rattle.gs_graph.proofs.Lists.{below_at}
use Rattle.gs_graph.proofs.Pushing.{ends_less}
use Rattle.gs_graph.proofs.edges.take_back.Goals as goal

pub pop_edge-requires : goal.pop_edge-requires
pop_edge-requires c =
    let lt = below_at (length c.args.next.now.items) c.args.producers.now c.loop-p.p-index 0 c.requires c.loop-p-test.true in
    let len = c.loop-p.invariant.len in omega arith

pub loop-p-preserved : goal.loop-p-preserved
loop-p-preserved c = record {
  edges = λ q n xs is. c.pop_edge.ensures.edges q n _ (ends_less n q c.args.producers.now xs _ c.loop-p.p-index 0 c.loop-p-test.true (c.loop-p.invariant.edges q n xs is));
  capacity = (let a = c.pop_edge.ensures.capacity in let b = c.loop-p.invariant.capacity in omega arith);
  len = (let a = c.pop_edge.ensures.len in let b = c.loop-p.invariant.len in omega arith);
}
