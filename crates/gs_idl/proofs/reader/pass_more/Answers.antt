use Rattle.std.proofs.Common.{refl}
use Rattle.gs_idl.specs.Lexicon.{symbol}
use Rattle.gs_idl.specs.Machine.{at_sep, at_dir, at_semi}
use Rattle.gs_idl.specs.Reading.{signs}
use Rattle.gs_idl.specs.declared.token.Symbol.TheVariants.{CloseParen, Comma}
use Rattle.gs_idl.proofs.Running.{passes, neither_halts, second_passes}
use Rattle.gs_idl.proofs.Steps.{open_sep, sep_comma, sep_close, sep_stops, sep_rule}
use Rattle.gs_idl.proofs.reader.pass_more.Goals as goal

pub returns-in-Ok-clause-moves : goal.returns-in-Ok-clause-moves
returns-in-Ok-clause-moves c x os f ps =
    passes (signs c.args.tokens.now) c.args.at.now c.pass_symbol.new.at (at_sep x os f ps) (at_dir x os f ps) (symbol Comma) (open_sep x os f ps) c.in-Ok.ensures.passed.0 (sep_comma x os f ps) (sep_rule x os f ps (symbol Comma)) c.in-Ok.ensures.passed.1 (λ f. refl)

pub returns-in-Ok-pass_symbol-clause-moves : goal.returns-in-Ok-pass_symbol-clause-moves
returns-in-Ok-pass_symbol-clause-moves c x os f ps =
    second_passes (signs c.args.tokens.now) c.args.at.now c.pass_symbol.new.at c.pass_symbol-in-Err.new.at (at_sep x os f ps) (at_semi x os f ps) (symbol Comma) (symbol CloseParen) c.in-Err.field-0 (open_sep x os f ps)
    c.in-Err.ensures.passed c.in-Ok-pass_symbol.ensures.passed.0 (sep_close x os f ps) (sep_rule x os f ps (symbol CloseParen)) c.in-Ok-pass_symbol.ensures.passed.1 (λ f. refl)

pub returns-in-Err-pass_symbol-clause-moves : goal.returns-in-Err-pass_symbol-clause-moves
returns-in-Err-pass_symbol-clause-moves c x os f ps =
    neither_halts (signs c.args.tokens.now) c.args.at.now c.pass_symbol.new.at c.pass_symbol-in-Err.new.at (at_sep x os f ps) (symbol Comma) (symbol CloseParen) c.in-Err-pass_symbol.stop c.in-Err.field-0 (open_sep x os f ps)
    (sep_stops x os f ps) c.in-Err.ensures.passed c.in-Err-pass_symbol.ensures.passed
