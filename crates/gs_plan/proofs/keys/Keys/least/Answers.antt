use Rattle.std.proofs.Common.{◌<◌, ℕ, List, length, subst, arith}
use Rattle.std.proofs.lemmas.Nat.{pow_pos}
use Rattle.std.proofs.lemmas.List.{get_or_read}
use Rattle.gs_plan.specs.Keys.{IsLeast}
use Rattle.gs_plan.proofs.Heap.{root_is_least}
use Rattle.gs_plan.proofs.keys.Keys.least.Goals as goal

pub returns : goal.returns
returns c =
    let tree = c.self.invariant.0 in
    let some = pow_pos c.self.inside.levels in
    let inside : 1 < length c.self.inside.nodes.items = omega (arith, some, tree.whole) in
    subst (λ (keys : List ℕ). IsLeast keys c.index.result.now) c.self.view_is
    (root_is_least c.self.inside.nodes.items c.self.inside.levels c.index.result.now tree (get_or_read c.self.inside.nodes.items 1 _ inside c.index.ensures 0))
