use Rattle.std.proofs.Common.{refl}
use lib.Chars.{codes}
use Rattle.gs_idl.specs.Lexicon.{word, symbol}
use Rattle.gs_idl.specs.Machine.{at_ops, at_name, closed}
use Rattle.gs_idl.specs.Reading.{signs}
use Rattle.gs_idl.specs.declared.token.Symbol.TheVariants.{CloseBrace}
use Rattle.gs_idl.proofs.Running.{passes, not_passed_halts, neither_halts, second_passes}
use Rattle.gs_idl.proofs.Steps.{open_ops, ops_void, ops_close, ops_stops, ops_rule, some_ops}
use Rattle.gs_idl.proofs.reader.pass_void.Goals as goal

pub returns-in-Ok-clause-moves : goal.returns-in-Ok-clause-moves
returns-in-Ok-clause-moves c x os e =
    passes (signs c.args.tokens.now) c.args.at.now c.pass_word.new.at (at_ops x os) (at_name x os) (word (codes "void")) (open_ops x os) c.in-Ok.ensures.passed.0 (ops_void x os) (ops_rule x os (word (codes "void"))) c.in-Ok.ensures.passed.1 (λ f. refl)

pub returns-in-Err-clause-moves : goal.returns-in-Err-clause-moves
returns-in-Err-clause-moves c x os e =
    not_passed_halts (signs c.args.tokens.now) c.args.at.now c.pass_word.new.at (at_ops x os) (word (codes "void")) c.in-Err.stop (open_ops x os) (λ g n. ops_stops x os g n (λ _. e.0 c.if-is_first.true)) c.in-Err.ensures.passed

pub returns-in-Ok-pass_symbol-clause-moves : goal.returns-in-Ok-pass_symbol-clause-moves
returns-in-Ok-pass_symbol-clause-moves c x os e =
    second_passes (signs c.args.tokens.now) c.args.at.now c.pass_word.new.at c.pass_symbol.new.at (at_ops x os) (closed x os) (word (codes "void")) (symbol CloseBrace) c.in-Err-2.field-0 (open_ops x os) c.in-Err-2.ensures.passed
    c.in-Ok-pass_symbol.ensures.passed.0 (ops_close x os (some_ops c.args.is_first os c.if-is_first.false e.1)) (ops_rule x os (symbol CloseBrace)) c.in-Ok-pass_symbol.ensures.passed.1 (λ f. refl)

pub returns-in-Err-pass_symbol-clause-moves : goal.returns-in-Err-pass_symbol-clause-moves
returns-in-Err-pass_symbol-clause-moves c x os e =
    neither_halts (signs c.args.tokens.now) c.args.at.now c.pass_word.new.at c.pass_symbol.new.at (at_ops x os) (word (codes "void")) (symbol CloseBrace) c.in-Err-pass_symbol.stop c.in-Err-2.field-0 (open_ops x os)
    (λ g n m. ops_stops x os g n (λ h. absurd (m h))) c.in-Err-2.ensures.passed c.in-Err-pass_symbol.ensures.passed
