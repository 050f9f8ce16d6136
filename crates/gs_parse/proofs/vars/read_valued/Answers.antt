use Rattle.std.proofs.Common.{[]}
use Rattle.gs_tree.specs.Sign.{ident}
use Rattle.gs_parse.specs.Grammar.{next_var}
use Rattle.gs_parse.specs.Notation.{declared}
use Rattle.gs_parse.specs.Reads.{IsNamed}
use Rattle.gs_parse.specs.Frame.{declared_of}
use Rattle.gs_parse.proofs.Chain.{stop_word}
use Rattle.gs_parse.proofs.Declaring.{begins_stop, declares, valued, valued_stop, plain}
use Rattle.gs_parse.proofs.vars.read_valued.Goals as goal

pub returns-in-Err-clause-reads : goal.returns-in-Err-clause-reads
returns-in-Err-clause-reads c = begins_stop _ _ _ _ declared_of _ _ _ (stop_word declared (ident []) IsNamed _ _ _ _ _ c.in-Err.ensures.expects)

pub returns-in-Ok-read_expr-clause-reads : goal.returns-in-Ok-read_expr-clause-reads
returns-in-Ok-read_expr-clause-reads c = declares _ (next_var c.args.kind) _ _ _ _ _ (valued c.args.kind _ _ _ _ _ c.in-Ok.name c.in-Ok-read_expr.value c.in-Ok.ensures.expects c.if-accept.ensures.takes c.in-Ok-read_expr.ensures.reads) c.declare_valued.ensures

pub returns-in-Err-read_expr-clause-reads : goal.returns-in-Err-read_expr-clause-reads
returns-in-Err-read_expr-clause-reads c = begins_stop _ _ _ _ declared_of _ _ _ (valued_stop c.args.kind _ _ _ _ c.in-Ok.name _ _ c.in-Ok.ensures.expects c.if-accept.ensures.takes c.in-Err-read_expr.ensures.reads)

pub returns-clause-reads : goal.returns-clause-reads
returns-clause-reads c = declares _ (next_var c.args.kind) _ _ _ _ _ (plain c.args.kind _ _ _ _ c.in-Ok.name c.in-Ok.ensures.expects c.if-accept.ensures.takes) c.declare_plain.ensures
