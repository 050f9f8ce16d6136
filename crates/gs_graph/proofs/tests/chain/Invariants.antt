use Rattle.std.proofs.Common.{◌≡◌, ◌+◌}
use Rattle.gs_graph.specs.Graph.{count_in}
use Rattle.gs_graph.proofs.tests.chain.Given as goal

abbrev pub invariant-loop-n : goal.invariant-loop-n
invariant-loop-n l = count_in l.graph + 1 ≡ l.n
