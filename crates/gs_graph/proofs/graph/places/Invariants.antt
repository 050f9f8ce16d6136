use Rattle.std.proofs.Common.{◌≡◌, ◌-◌, map, take}
use Rattle.gs_graph.proofs.graph.places.Given as goal

abbrev pub invariant-loop-n : goal.invariant-loop-n
invariant-loop-n l = l.places.items ≡ map (λ n. n - 1) (take l.n-index l.tasks)
