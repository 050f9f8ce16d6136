use Rattle.std.proofs.Common.{[], map}
use Rattle.gs_idl.specs.Machine.{at_ops}
use Rattle.gs_idl.specs.Reading.{signs}
use Rattle.gs_idl.specs.View.{op_of}
use Rattle.gs_idl.proofs.Running.{after_halts}
use Rattle.gs_idl.proofs.reader.read_ops.Goals as goal

pub returns-in-Err-clause-moves : goal.returns-in-Err-clause-moves
returns-in-Err-clause-moves c x =
    after_halts (signs c.args.tokens.now) c.args.at.now c.ops.at c.add_op.new.at (at_ops x []) (at_ops x (map op_of c.ops.ops.items)) c.in-Err.stop (c.ops.invariant.moves x) (c.in-Err.ensures.moves x)
