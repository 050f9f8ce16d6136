use Rattle.std.proofs.Common.{arith}
use Rattle.gs_parse.specs.Grammar.{rule}
use Rattle.gs_parse.specs.Notation.{declared, decls}
use Rattle.gs_parse.specs.Frame.{declared_of}
use Rattle.gs_parse.proofs.Declaring.{begins_onward, begins_err, onward_then, decls_type, decls_end}
use Rattle.gs_parse.proofs.vars.read_decls.Goals as goal

pub returns-in-None-clause-reads : goal.returns-in-None-clause-reads
returns-in-None-clause-reads c = c.decls.invariant.reads _ _ (decls_end c.decls.all _ _ c.in-None.ensures.takes)

pub decls-preserved : goal.decls-preserved
decls-preserved c = record { onward = omega (arith, c.decls.invariant.onward, c.take_type.ensures.onward, c.read_names.ensures.onward); reads = onward_then declared _ _ _ declared_of _ _ _ c.decls.invariant.reads (onward_then declared _ _ _ declared_of _ _ _ (decls_type (declared_of c.decls.all) _ c.in-Some.kind _ c.in-Some.ensures.takes) (begins_onward declared _ _ declared_of _ c.in-Ok.field-0 _ c.in-Ok.ensures.reads)) }

pub returns-in-Err-clause-reads : goal.returns-in-Err-clause-reads
returns-in-Err-clause-reads c = c.decls.invariant.reads _ _ (decls_type (declared_of c.decls.all) _ c.in-Some.kind _ c.in-Some.ensures.takes _ _ (begins_err _ declared _ (rule (decls (declared_of c.read_names.new.all))) declared_of _ _ _ c.in-Err.ensures.reads))
