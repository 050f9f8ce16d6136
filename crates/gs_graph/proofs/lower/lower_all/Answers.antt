use Rattle.std.proofs.Common.{arith, length}
use Rattle.gs_graph.proofs.Lists.{below_at}
use Rattle.gs_graph.proofs.lower.lower_all.Goals as goal

pub lower-requires-clause-within : goal.lower-requires-clause-within
lower-requires-clause-within c =
    let lt = below_at (length c.args.missing.now.items) c.args.next.now c.loop-s.s-index 0 c.requires.within c.loop-s-test.true in
    let len = c.loop-s.invariant.len in omega arith
