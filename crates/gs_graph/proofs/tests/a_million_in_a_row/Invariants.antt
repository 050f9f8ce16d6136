use Rattle.std.proofs.Common.{◌≡◌}
use Rattle.gs_graph.specs.Graph.{count_in}
use Rattle.gs_graph.proofs.tests.a_million_in_a_row.Given as goal

abbrev pub invariant-loop-n : goal.invariant-loop-n
invariant-loop-n g l = count_in l.graph ≡ 1000000
