use Rattle.std.proofs.Common.{◌≡◌, ◌+◌, ◌*◌, map, drop}
use Rattle.gs_tree.specs.View.{codes_of, var_of}
use Rattle.gs_check.specs.Faults.{codes_fault}
use Rattle.gs_check.proofs.stmt.+statements.Given as goal

abbrev pub invariant-body_fault-loop-s : goal.invariant-body_fault-loop-s
invariant-body_fault-loop-s l = codes_fault l.idl.ops (map var_of l.vars) (codes_of (drop l.s-index l.body)) ≡ codes_fault l.idl.ops (map var_of l.vars) (codes_of l.body)

abbrev pub decreases-body_fault : goal.decreases-body_fault
decreases-body_fault l = goal.size-body_fault l * 3 + 1

abbrev pub decreases-stmt_fault : goal.decreases-stmt_fault
decreases-stmt_fault l = goal.size-stmt_fault l * 3

abbrev pub decreases-guarded_fault : goal.decreases-guarded_fault
decreases-guarded_fault l = goal.size-guarded_fault l * 3 + 2

abbrev pub decreases-else_fault : goal.decreases-else_fault
decreases-else_fault l = goal.size-else_fault l * 3 + 2
