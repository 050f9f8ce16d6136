use Rattle.std.proofs.Common.{◌<◌, ◌≤◌, ℕ, List, length, get_or, sym, subst, refl, arith}
use Rattle.gs_plan.proofs.Heap.{root_is_least}
use Rattle.gs_plan.proofs.keys.Keys.first_within.Goals as goal

pub first_leaf-requires-clause-some : goal.first_leaf-requires-clause-some
first_leaf-requires-clause-some c =
    let least = root_is_least c.self.inside.nodes.items c.self.inside.levels _ c.self.invariant.0 refl in
    let (k, inside, within) = subst (λ (keys : List ℕ). (k : ℕ) × (k < length keys) × (get_or keys k 0 ≤ c.args.limit)) (sym c.self.view_is) c.requires in
    omega (arith, least.least k inside, within)
