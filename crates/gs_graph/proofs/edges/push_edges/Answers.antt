use Rattle.std.proofs.Common.{◌≡◌, ◌∙◌, ap, arith, length, ℕ, take}
use Rattle.gs_graph.specs.Edges.{after, all_below}
use Rattle.gs_graph.proofs.Lists.{below_at}
use Rattle.gs_graph.proofs.Pushing.{ends_more, below_take}
use Rattle.gs_graph.proofs.edges.push_edges.Goals as goal

pub push_edge-requires : goal.push_edge-requires
push_edge-requires c =
    let lt = below_at (length c.args.next.now.items) c.args.producers.now c.loop-i.i 0 c.requires c.loop-i-test.true in
    let len = c.loop-i.invariant.len in omega arith

pub take_back-requires : goal.take_back-requires
take_back-requires c =
    let len : length c.push_edge.new.next.items ≡ length c.args.next.now.items = c.in-Err.ensures.len ∙ c.loop-i.invariant.len in
    ap (λ (n : ℕ). all_below n (take c.loop-i.i c.args.producers.now)) len ∙ below_take (length c.args.next.now.items) c.loop-i.i c.args.producers.now c.requires

pub loop-i-preserved : goal.loop-i-preserved
loop-i-preserved c = record {
  edges = λ q. c.in_default.ensures.edges q ∙ ends_more c.args.n q c.args.producers.now (after c.args.next.now.items q) (after c.loop-i.next.items q) c.loop-i.i 0 c.loop-i-test.true (c.loop-i.invariant.edges q);
  capacity = (let a = c.in_default.ensures.capacity in let b = c.loop-i.invariant.capacity in omega arith);
  len = c.in_default.ensures.len ∙ c.loop-i.invariant.len;
}

pub returns-in-Err : goal.returns-in-Err
returns-in-Err c = record {
  edges = tt;
  err = λ q. c.take_back.ensures.edges q c.args.n (after c.args.next.now.items q) (c.in-Err.ensures.err q ∙ c.loop-i.invariant.edges q);
  len = c.take_back.ensures.len ∙ c.in-Err.ensures.len ∙ c.loop-i.invariant.len;
  capacity = (let a = c.take_back.ensures.capacity in let b = c.in-Err.ensures.capacity in let d = c.loop-i.invariant.capacity in omega arith);
}
