use Rattle.std.proofs.Common.{◌∙◌, sym, refl, ap, map, List, ℕ, ◌++◌, ◌∷◌, [], Some, true, false}
use Rattle.gs_idl.specs.Lexicon.{word}
use Rattle.gs_idl.specs.Machine.{at_param, at_sep, param_by}
use Rattle.gs_idl.specs.Reading.{signs}
use Rattle.gs_idl.specs.View.{param_of}
use Rattle.gs_idl.specs.declared.token.IdlKind.TheVariants.{Twice}
use Rattle.gs_idl.proofs.Running.{passes, breaks, no_word_halts}
use Rattle.gs_idl.proofs.Steps.{open_param, param_no_word, param_goes, param_named}
use Rattle.gs_idl.proofs.reader.pass_param_name.Goals as goal

pub returns-in-Err-clause-moves : goal.returns-in-Err-clause-moves
returns-in-Err-clause-moves c x os f d k =
    let ps = map param_of c.args.params.now in
    no_word_halts (signs c.args.tokens.now) c.args.at.now (at_param x os f ps d k) c.in-Err.stop (open_param x os f ps d k) (param_no_word x os f ps d k) c.in-Err.ensures.named

pub returns-then-has_param-clause-moves : goal.returns-then-has_param-clause-moves
returns-then-has_param-clause-moves c x os f d k =
    let ps = map param_of c.args.params.now in
    breaks (signs c.args.tokens.now) c.args.at.now (at_param x os f ps d k) _ (word _) Twice (open_param x os f ps d k) c.in-Ok.ensures.named
    (param_goes x os f ps d k _) (param_named x os f ps d k _ true (sym c.if-has_param.ensures))

pub returns-clause-moves : goal.returns-clause-moves
returns-clause-moves c x os f d k =
    let ps = map param_of c.args.params.now in
    passes (signs c.args.tokens.now) c.args.at.now _ (at_param x os f ps d k) _ (word _) (open_param x os f ps d k) c.in-Ok.ensures.named
    (param_goes x os f ps d k _ ∙ ap (λ (v : List ℕ). Some (at_sep x os f (ps ++ param_by d k v ∷ []))) (sym c.in-Ok-copied.ensures)) (param_named x os f ps d k _ false (sym c.if-has_param.ensures)) refl (λ f. refl)

pub returns-in-Err-copied-clause-moves : goal.returns-in-Err-copied-clause-moves
returns-in-Err-copied-clause-moves c x os f d k = rw c.in-Err-copied.ensures tt
