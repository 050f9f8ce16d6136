use Rattle.std.proofs.Common.{◌≡◌, ◌++◌, drop, map}
use Rattle.gs_idl.specs.Printed.{ops_text}
use Rattle.gs_idl.specs.View.{op_of}
use Rattle.gs_idl.proofs.printer.put_ops.Given as goal

abbrev pub invariant-loop-op : goal.invariant-loop-op
invariant-loop-op l = l.out.items ++ ops_text (map op_of (drop l.op-index l.ops)) ≡ l.initial.out.items ++ ops_text (map op_of l.ops)
