use Rattle.std.proofs.Common.{◌≡◌, ◌+◌, ◌<◌, All}
use Rattle.gs_graph.specs.Graph.{count_in}
use Rattle.gs_graph.proofs.tests.fan.Given as goal

abbrev pub invariant-loop-n : goal.invariant-loop-n
invariant-loop-n l = (count_in l.graph + 1 ≡ l.n) × All (λ p. (0 < p) × (p < l.n)) l.producers.items
