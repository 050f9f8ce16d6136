use Rattle.std.proofs.Common.{arith}
use Rattle.gs_parse.specs.Grammar.{next_var}
use Rattle.gs_parse.specs.Notation.{declared}
use Rattle.gs_parse.specs.Reads.{Anything}
use Rattle.gs_parse.specs.Frame.{declared_of}
use Rattle.gs_parse.proofs.Declaring.{begins_stop, onward_begins, begins_onward, begins_err, onward_then, names_comma, names_end}
use Rattle.gs_parse.proofs.vars.read_names.Goals as goal

pub returns-in-Err-clause-reads : goal.returns-in-Err-clause-reads
returns-in-Err-clause-reads c = begins_stop _ declared _ _ declared_of _ _ _ (c.names.invariant.reads _ _ (begins_err _ declared _ (next_var c.args.kind (declared_of c.read_var.new.all)) declared_of _ _ _ c.in-Err.ensures.reads))

pub names-preserved : goal.names-preserved
names-preserved c = record { onward = omega (arith, c.names.invariant.onward, c.read_var.ensures.onward, c.if-accept.ensures.onward); reads = onward_then declared _ _ _ declared_of _ _ _ c.names.invariant.reads (onward_then declared _ _ _ declared_of _ _ _ (begins_onward declared _ _ declared_of _ c.in-Ok.field-0 _ c.in-Ok.ensures.reads) (names_comma c.args.kind (declared_of c.read_var.new.all) _ _ c.if-accept.ensures.takes)) }

pub returns-in-names-clause-reads : goal.returns-in-names-clause-reads
returns-in-names-clause-reads c = onward_begins declared _ _ _ declared_of _ _ _ _ (onward_then declared _ _ _ declared_of _ _ _ c.names.invariant.reads (begins_onward declared _ _ declared_of _ c.in-Ok.field-0 _ c.in-Ok.ensures.reads)) (names_end Anything c.args.kind (declared_of c.read_var.new.all) _ _ _ _ c.if-accept.ensures.takes c.expect.ensures.expects)
