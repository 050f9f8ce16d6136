use Rattle.std.proofs.Common.{◌≡◌, ◌++◌, ◌∷◌, [], List, drop, map, subst}
use Rattle.gs_idl.specs.Interface.{Param}
use Rattle.gs_idl.specs.Machine.{at_dir, at_sep, run}
use Rattle.gs_idl.specs.Reading.{signs, Halts}
use Rattle.gs_idl.specs.View.{param_of}
use Rattle.gs_idl.specs.declared.idl.Parameter.{Parameter}
use Rattle.gs_idl.proofs.Running.{after_halts}
use Rattle.gs_idl.proofs.reader.add_param.Goals as goal

pub returns-in-Err-clause-moves : goal.returns-in-Err-clause-moves
returns-in-Err-clause-moves c x os f =
    subst (λ (ps : List Parameter). Halts (signs c.args.tokens.now) c.args.at.now (at_dir x os f (map param_of ps)) c.read_param.new.at c.in-Err.stop) c.as_slice.ensures.value (c.in-Err.ensures.moves x os f)

pub returns-in-Err-pass_more-clause-moves : goal.returns-in-Err-pass_more-clause-moves
returns-in-Err-pass_more-clause-moves c x os f =
    let gs = signs c.args.tokens.now in
    let next : List Param = map param_of c.args.params.now.items ++ param_of c.in-Ok.param ∷ [] in
    let here = subst (λ (ps : List Parameter). run c.args.at.now (at_dir x os f (map param_of ps)) (drop c.args.at.now gs) ≡ run c.read_param.new.at (at_sep x os f (map param_of ps ++ param_of c.in-Ok.param ∷ [])) (drop c.read_param.new.at gs))
    c.as_slice.ensures.value (c.in-Ok.ensures.moves x os f) in
    after_halts gs c.args.at.now c.read_param.new.at c.pass_more.new.at (at_dir x os f (map param_of c.args.params.now.items)) (at_sep x os f next) c.in-Err-pass_more.stop here (c.in-Err-pass_more.ensures.moves x os f next)
