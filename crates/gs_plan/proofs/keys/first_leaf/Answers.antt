use Rattle.std.proofs.Common.{◌≡◌, ◌<◌, ◌+◌, ◌-◌, ◌*◌, ◌/◌, ◌^◌, length, arith}
use Rattle.std.proofs.Math.Pow.{pow_mono}
use Rattle.std.proofs.lemmas.List.{get_or_read}
use Rattle.gs_plan.proofs.Heap.{way_left, way_right, way_ends, pow_more}
use Rattle.gs_plan.proofs.keys.first_leaf.Goals as goal
use Rattle.gs_plan.proofs.keys.first_leaf.Goals.{then-index-limit, else-index-limit}

pub index-requires : goal.index-requires
index-requires c =
    let twice = pow_more c.loop-level._level in
    let room = pow_mono {i = c.loop-level._level + 1} {j = c.args.levels} (omega arith) in
    omega (arith, twice, room, c.loop-level.invariant.high, c.requires.tree.whole, c.args.nodes.now.ok.0)

pub loop-level-preserved : goal.loop-level-preserved
loop-level-preserved c =
    let tree = c.requires.tree in
    let twice = pow_more c.loop-level._level in
    let room = pow_mono {i = c.loop-level._level + 1} {j = c.args.levels} (omega arith) in
    let inside : c.loop-level.node * 2 < length c.args.nodes.now.items = omega (arith, twice, room, c.loop-level.invariant.high, tree.whole) in
    let read = get_or_read c.args.nodes.now.items _ _ inside c.index.ensures 0 in
    let turned : c.loop-level.node * 2 ≡ 2 * c.loop-level.node = omega arith in
    let there = rw turned at read in
    elim c.if-index-limit.branch [
      | then-index-limit w ↦ way_right c.args.nodes.now.items c.args.levels c.loop-level._level c.loop-level.node c.args.limit c.if-index-limit.node tree c.loop-level-test.true c.loop-level.invariant (omega (arith, w.node-is)) (omega (arith, there, w.if-index-limit.true))
      | else-index-limit w ↦ way_left c.args.nodes.now.items c.args.levels c.loop-level._level c.loop-level.node c.args.limit c.if-index-limit.node tree c.loop-level-test.true c.loop-level.invariant (omega (arith, w.node-is)) (omega (arith, there, w.if-index-limit.false))
    ]

pub returns : goal.returns
returns c =
    let tree = c.requires.tree in
    let size : c.len.result / 2 ≡ 2 ^ c.args.levels = omega (arith, c.len.ensures, tree.whole, c.args.nodes.now.ok.0) in
    let level : c.loop-level._level ≡ c.args.levels = omega arith in
    let low = c.loop-level.invariant.low in
    let low' = rw level at low in
    way_ends c.args.nodes.now.items c.args.levels c.loop-level._level c.loop-level.node c.args.limit (c.loop-level.node - c.len.result / 2) tree level c.loop-level.invariant (omega (arith, size, low'))
