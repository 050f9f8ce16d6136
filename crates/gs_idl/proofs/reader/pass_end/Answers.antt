use Rattle.std.proofs.Common.{refl, true, false}
use Rattle.gs_idl.specs.Lexicon.{symbol, finish}
use Rattle.gs_idl.specs.Machine.{closed, ended}
use Rattle.gs_idl.specs.Reading.{signs}
use Rattle.gs_idl.specs.declared.token.Symbol.TheVariants.{Semicolon}
use Rattle.gs_idl.proofs.Running.{passes, last_ends, last_ends_here}
use Rattle.gs_idl.proofs.Steps.{open_closed, open_ended, closed_semicolon, closed_finish, closed_stops, closed_rule, ended_finish, ended_stops, ended_rule}
use Rattle.gs_idl.proofs.reader.pass_end.Goals as goal

pub returns-in-Ok : goal.returns-in-Ok
returns-in-Ok c x os =
    let gs = signs c.args.tokens.now in
    last_ends gs c.args.at.now c.pass_symbol.new.at (closed x os) (ended x os) true x os c.pass_last.result (open_ended x os)
    (passes gs c.args.at.now c.pass_symbol.new.at (closed x os) (ended x os) (symbol Semicolon) (open_closed x os) c.in-Ok.ensures.passed.0 (closed_semicolon x os) (closed_rule x os (symbol Semicolon)) c.in-Ok.ensures.passed.1 (λ f. refl))
    (ended_finish x os) (ended_rule x os finish) (ended_stops x os) c.pass_last.ensures

pub returns-in-Err : goal.returns-in-Err
returns-in-Err c x os =
    last_ends_here (signs c.args.tokens.now) c.args.at.now c.pass_symbol.new.at (closed x os) false x os (symbol Semicolon) c.in-Err.field-0 c.pass_last-in-Err.result (open_closed x os) c.in-Err.ensures.passed
    (closed_finish x os) (closed_rule x os finish) (closed_stops x os) c.pass_last-in-Err.ensures
