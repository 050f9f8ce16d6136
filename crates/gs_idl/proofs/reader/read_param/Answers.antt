use Rattle.std.proofs.Common.{◌∙◌, map}
use Rattle.std.proofs.lemmas.List.{length-map}
use Rattle.gs_idl.specs.Machine.{at_dir, at_kind, at_param}
use Rattle.gs_idl.specs.Reading.{signs}
use Rattle.gs_idl.specs.View.{param_of}
use Rattle.gs_idl.proofs.Running.{after_halts}
use Rattle.gs_idl.proofs.reader.read_param.Goals as goal

pub returns-in-Err-clause-moves : goal.returns-in-Err-clause-moves
returns-in-Err-clause-moves c x os f = c.in-Err.ensures.moves x os f (map param_of c.args.params.now) (length-map c.args.params.now param_of)

pub returns-in-Err-pass_kind-clause-moves : goal.returns-in-Err-pass_kind-clause-moves
returns-in-Err-pass_kind-clause-moves c x os f =
    let ps = map param_of c.args.params.now in
    after_halts (signs c.args.tokens.now) c.args.at.now c.pass_dir.new.at c.pass_kind.new.at (at_dir x os f ps) (at_kind x os f ps c.in-Ok.dir) c.in-Err-pass_kind.stop
    (c.in-Ok.ensures.moves x os f ps (length-map c.args.params.now param_of)) (c.in-Err-pass_kind.ensures.moves x os f ps)

pub returns-in-Err-pass_param_name-clause-moves : goal.returns-in-Err-pass_param_name-clause-moves
returns-in-Err-pass_param_name-clause-moves c x os f =
    let ps = map param_of c.args.params.now in
    after_halts (signs c.args.tokens.now) c.args.at.now c.pass_kind.new.at c.pass_param_name.new.at (at_dir x os f ps) (at_param x os f ps c.in-Ok.dir c.in-Ok-pass_kind.kind) c.in-Err-pass_param_name.stop
    (c.in-Ok.ensures.moves x os f ps (length-map c.args.params.now param_of) ∙ c.in-Ok-pass_kind.ensures.moves x os f ps) (c.in-Err-pass_param_name.ensures.moves x os f c.in-Ok.dir c.in-Ok-pass_kind.kind)
