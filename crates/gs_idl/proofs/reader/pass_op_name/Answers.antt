use Rattle.std.proofs.Common.{◌∙◌, sym, refl, ap, map, List, ℕ, Some}
use Rattle.gs_idl.specs.Lexicon.{word}
use Rattle.gs_idl.specs.Machine.{at_name, at_paren}
use Rattle.gs_idl.specs.Reading.{signs}
use Rattle.gs_idl.specs.View.{op_of}
use Rattle.gs_idl.proofs.Running.{passes, breaks, no_word_halts}
use Rattle.gs_idl.proofs.Steps.{open_name, name_no_word, name_goes, name_broken}
use Rattle.gs_idl.proofs.reader.pass_op_name.Goals as goal

pub returns-in-Err-clause-moves : goal.returns-in-Err-clause-moves
returns-in-Err-clause-moves c x =
    let os = map op_of c.args.ops.now in
    no_word_halts (signs c.args.tokens.now) c.args.at.now (at_name x os) c.in-Err.stop (open_name x os) (name_no_word x os) c.in-Err.ensures.named

pub returns-in-Some-clause-moves : goal.returns-in-Some-clause-moves
returns-in-Some-clause-moves c x =
    let os = map op_of c.args.ops.now in
    breaks (signs c.args.tokens.now) c.args.at.now (at_name x os) _ (word _) c.in-Some.kind (open_name x os) c.in-Ok.ensures.named (name_goes x os _) (name_broken x os _ _ (sym c.name_rule.ensures ∙ c.in-Some.is))

pub returns-clause-moves : goal.returns-clause-moves
returns-clause-moves c x =
    let os = map op_of c.args.ops.now in
    passes (signs c.args.tokens.now) c.args.at.now _ (at_name x os) _ (word _) (open_name x os) c.in-Ok.ensures.named (name_goes x os _ ∙ ap (λ (v : List ℕ). Some (at_paren x os v)) (sym c.in-Ok-copied.ensures))
    (name_broken x os _ _ (sym c.name_rule.ensures ∙ c.in_default.is)) refl (λ f. refl)

pub returns-in-Err-copied-clause-moves : goal.returns-in-Err-copied-clause-moves
returns-in-Err-copied-clause-moves c x = rw c.in-Err-copied.ensures tt
