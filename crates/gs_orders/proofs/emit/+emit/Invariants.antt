use Rattle.std.proofs.Common.{◌≤◌, ◌+◌, ◌*◌, drop, length}
use Rattle.gs_tree.specs.View.{codes_of}
use Rattle.gs_orders.specs.Says.{scene}
use Rattle.gs_orders.specs.Emitted.{Kept, WroteAll}
use Rattle.gs_orders.proofs.emit.+emit.Given as goal

abbrev pub invariant-emit_all-back : goal.invariant-emit_all-back
invariant-emit_all-back l = record {
  within : l.i ≤ length l.body;
  kept : Kept l.fn.orders.items l.orders.items;
  says : WroteAll (scene l.names l.idl.ops) l.fn.orders.items l.here (codes_of (drop l.i l.body)) l.fn.next l.orders.items;
}

abbrev pub decreases-emit_all-back : goal.decreases-emit_all-back
decreases-emit_all-back l = l.i

abbrev pub decreases-emit : goal.decreases-emit
decreases-emit l = goal.size-emit l * 3

abbrev pub decreases-emit_all : goal.decreases-emit_all
decreases-emit_all l = goal.size-emit_all l * 3 + 1

abbrev pub decreases-emit_else : goal.decreases-emit_else
decreases-emit_else l = goal.size-emit_else l * 3 + 2

abbrev pub decreases-emit_test : goal.decreases-emit_test
decreases-emit_test l = goal.size-emit_test l * 3 + 2

abbrev pub decreases-emit_while : goal.decreases-emit_while
decreases-emit_while l = goal.size-emit_while l * 3 + 2

abbrev pub decreases-emit_for : goal.decreases-emit_for
decreases-emit_for l = goal.size-emit_for l * 3 + 2
