use Rattle.gs_parse.specs.Grammar.{expr, rule}
use Rattle.gs_parse.specs.Reads.{left}
use Rattle.gs_parse.proofs.Reviews.{expr_ok, expr_err}
use Rattle.gs_parse.proofs.terms.read_expr.Goals as goal

pub returns-in-Ok-clause-reads : goal.returns-in-Ok-clause-reads
returns-in-Ok-clause-reads c = expr_ok (rule (expr c.args.depth 0)) (left c.args.tokens.now c.args.at.now) c.in-Ok.field-0 (left c.args.tokens.now c.binary.new.at) c.in-Ok.ensures.reads

pub returns-in-Err-clause-reads : goal.returns-in-Err-clause-reads
returns-in-Err-clause-reads c = expr_err (rule (expr c.args.depth 0)) (left c.args.tokens.now c.args.at.now) c.in-Err.stop (left c.args.tokens.now c.binary.new.at) c.in-Err.ensures.reads
