use Rattle.std.proofs.Common.{◌≡◌, ◌≢◌, ◌+◌, ◌*◌, ◌^◌, ◌<◌, ℕ, length, slice_index, slice_set, min}
use Rattle.gs_plan.specs.Keys.{leaves}
use Rattle.gs_plan.proofs.keys.set_leaf.Given as goal

abbrev pub invariant-loop-node : goal.invariant-loop-node
invariant-loop-node l = record {
  whole : length l.nodes.items ≡ 2 * 2 ^ l.levels;
  inside : l.node < 2 ^ l.levels;
  least : (q : ℕ) → 0 < q → q < 2 ^ l.levels → q ≢ l.node →
      slice_index l.nodes.items q ≡ min (slice_index l.nodes.items (2 * q)) (slice_index l.nodes.items (2 * q + 1));
  leaf : leaves l.nodes.items l.levels ≡ slice_set (leaves l.fn.nodes.items l.levels) l.place l.key;
}

abbrev pub decreases-loop-node : goal.decreases-loop-node
decreases-loop-node l = l.node
