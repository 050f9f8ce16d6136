use Rattle.std.proofs.Common.{◌≡◌, drop, map}
use Rattle.gs_idl.specs.Machine.{has_op}
use Rattle.gs_idl.specs.View.{op_of}
use Rattle.gs_idl.proofs.reader.has_op.Given as goal

abbrev pub invariant-loop-op : goal.invariant-loop-op
invariant-loop-op l = has_op l.name (map op_of (drop l.op-index l.ops)) ≡ has_op l.name (map op_of l.ops)
