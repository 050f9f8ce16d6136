use Rattle.std.proofs.Common.{get_or, refl, arith}
use Rattle.gs_plan.proofs.Linking.{index_more, read_link}
use Rattle.gs_plan.proofs.links.links_of.Goals as goal

pub loop-e-preserved : goal.loop-e-preserved
loop-e-preserved c =
    let named = c.requires.inside c.loop-e.e c.loop-e-test.true in
    index_more c.args.befores.now c.loop-e.heads.items c.loop-e.links.items c.args.tasks c.loop-e.e (get_or c.args.befores.now c.loop-e.e 0) c.index.result.now
    c.loop-e.invariant c.loop-e-test.true refl named
    (read_link c.loop-e.heads.items (get_or c.args.befores.now c.loop-e.e 0) c.index.result.now (omega (arith, named, c.loop-e.invariant.heads_each)) c.index.ensures)
