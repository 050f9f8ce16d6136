use Rattle.std.proofs.Common.{[], map}
use Rattle.gs_idl.specs.Machine.{at_dir}
use Rattle.gs_idl.specs.Reading.{signs}
use Rattle.gs_idl.specs.View.{param_of}
use Rattle.gs_idl.proofs.Running.{after_halts}
use Rattle.gs_idl.proofs.reader.read_params.Goals as goal

pub returns-in-Err-clause-moves : goal.returns-in-Err-clause-moves
returns-in-Err-clause-moves c x os f =
    after_halts (signs c.args.tokens.now) c.args.at.now c.params.at c.add_param.new.at (at_dir x os f []) (at_dir x os f (map param_of c.params.params.items)) c.in-Err.stop (c.params.invariant.moves x os f) (c.in-Err.ensures.moves x os f)
