use Rattle.std.proofs.Common.{◌≡◌, ◌+◌, ◌*◌, drop}
use Rattle.gs_broker.specs.Listed.{entries_in}
use Rattle.gs_tree.specs.View.{codes_of}
use Rattle.gs_run.specs.Unserved.{unserved}
use Rattle.gs_run.proofs.calls.+calls.Given as goal

abbrev pub invariant-first_unserved-loop-s : goal.invariant-first_unserved-loop-s
invariant-first_unserved-loop-s l =
    unserved l.idl.ops (entries_in l.workers) (codes_of (drop l.s-index l.body))
    ≡ unserved l.idl.ops (entries_in l.workers) (codes_of l.body)

abbrev pub decreases-first_unserved : goal.decreases-first_unserved
decreases-first_unserved l = goal.size-first_unserved l * 3 + 1

abbrev pub decreases-statement_line : goal.decreases-statement_line
decreases-statement_line l = goal.size-statement_line l * 3

abbrev pub decreases-else_line : goal.decreases-else_line
decreases-else_line l = goal.size-else_line l * 3 + 2
