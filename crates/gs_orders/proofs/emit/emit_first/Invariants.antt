use Rattle.std.proofs.Common.{◌≤◌, drop, length, map}
use Rattle.gs_tree.specs.View.{setting_of}
use Rattle.gs_orders.specs.Says.{scene}
use Rattle.gs_orders.specs.Emitted.{Kept, WroteFirst}
use Rattle.gs_orders.proofs.emit.emit_first.Given as goal

abbrev pub invariant-back : goal.invariant-back
invariant-back l = record {
  within : l.i ≤ length l.first;
  kept : Kept l.fn.orders.items l.orders.items;
  says : WroteFirst (scene l.names l.idl.ops) l.fn.orders.items l.here (map setting_of (drop l.i l.first)) l.fn.next l.orders.items;
}

abbrev pub decreases-back : goal.decreases-back
decreases-back l = l.i
