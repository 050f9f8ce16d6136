use Rattle.std.proofs.Common.{◌∙◌, sym, refl, arith}
use Rattle.gs_idl.specs.Lexicon.{word}
use Rattle.gs_idl.specs.Machine.{at_dir, at_kind}
use Rattle.gs_idl.specs.Reading.{signs}
use Rattle.gs_idl.specs.declared.token.IdlKind.TheVariants.{Unexpected, TooMany}
use Rattle.gs_idl.proofs.Running.{passes, breaks, stops_at, no_word_halts}
use Rattle.gs_idl.proofs.Steps.{open_dir, dir_no_word, dir_other, dir_goes, dir_many, dir_few}
use Rattle.gs_idl.proofs.reader.pass_dir.Goals as goal

pub returns-in-Err-clause-moves : goal.returns-in-Err-clause-moves
returns-in-Err-clause-moves c x os f ps e = no_word_halts (signs c.args.tokens.now) c.args.at.now (at_dir x os f ps) c.in-Err.stop (open_dir x os f ps) (dir_no_word x os f ps) c.in-Err.ensures.named

pub returns-in_default-clause-moves : goal.returns-in_default-clause-moves
returns-in_default-clause-moves c x os f ps e =
    stops_at (signs c.args.tokens.now) c.args.at.now (at_dir x os f ps) (word _) Unexpected (open_dir x os f ps) c.in-Ok.ensures.named (dir_other x os f ps _ (sym c.dir_of.ensures ∙ c.in_default.is)) refl

pub returns-then-count-ge16-clause-moves : goal.returns-then-count-ge16-clause-moves
returns-then-count-ge16-clause-moves c x os f ps e =
    breaks (signs c.args.tokens.now) c.args.at.now (at_dir x os f ps) (at_kind x os f ps c.in-Some.dir) (word _) TooMany (open_dir x os f ps) c.in-Ok.ensures.named
    (dir_goes x os f ps _ c.in-Some.dir (sym c.dir_of.ensures ∙ c.in-Some.is)) (dir_many x os f ps _ (omega (arith, e)))

pub returns-clause-moves : goal.returns-clause-moves
returns-clause-moves c x os f ps e =
    passes (signs c.args.tokens.now) c.args.at.now _ (at_dir x os f ps) (at_kind x os f ps c.in-Some.dir) (word _) (open_dir x os f ps) c.in-Ok.ensures.named
    (dir_goes x os f ps _ c.in-Some.dir (sym c.dir_of.ensures ∙ c.in-Some.is)) (dir_few x os f ps _ (omega (arith, e))) refl (λ f. refl)
