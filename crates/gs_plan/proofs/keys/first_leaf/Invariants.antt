use Rattle.gs_plan.proofs.Heap.{IsWay}
use Rattle.gs_plan.proofs.keys.first_leaf.Given as goal

abbrev pub invariant-loop-level : goal.invariant-loop-level
invariant-loop-level l = IsWay l.nodes.items l._level l.node l.limit
