use Rattle.gs_tree.specs.Sign.{open_paren, close_paren}
use Rattle.gs_parse.specs.Grammar.{expr}
use Rattle.gs_parse.specs.Reads.{Anything}
use Rattle.gs_parse.proofs.Chain.{then_word, stop_word, then_part, stop_part, then_sign, gave_lined}
use Rattle.gs_parse.specs.Notation.{a_term}
use Rattle.gs_parse.proofs.terms.read_condition.Goals as goal

pub returns-in-Err-clause-reads : goal.returns-in-Err-clause-reads
returns-in-Err-clause-reads c = (stop_word a_term open_paren Anything _ _ _ _ _ c.in-Err.ensures.expects)

pub returns-in-Err-read_expr-clause-reads : goal.returns-in-Err-read_expr-clause-reads
returns-in-Err-read_expr-clause-reads c = then_sign a_term open_paren Anything _ _ _ _ _ _ _ c.in-Ok.ensures.expects (λ x first here. (stop_part a_term (expr 0 0) _ _ _ _ _ _ c.in-Err-read_expr.ensures.reads))

pub returns-in-Err-expect-clause-reads : goal.returns-in-Err-expect-clause-reads
returns-in-Err-expect-clause-reads c = then_sign a_term open_paren Anything _ _ _ _ _ _ _ c.in-Ok.ensures.expects (λ x first here. (then_part a_term (expr 0 0) _ _ _ _ _ _ _ _ c.in-Ok-read_expr.ensures.reads (stop_word a_term close_paren Anything _ _ _ _ _ c.in-Err-expect.ensures.expects)))

pub returns-in-Ok-expect-clause-reads : goal.returns-in-Ok-expect-clause-reads
returns-in-Ok-expect-clause-reads c = then_sign a_term open_paren Anything _ _ _ _ _ _ _ c.in-Ok.ensures.expects (λ x first here. (then_part a_term (expr 0 0) _ _ _ _ _ _ _ _ c.in-Ok-read_expr.ensures.reads (then_word a_term close_paren Anything _ _ _ _ _ _ _ c.in-Ok-expect.ensures.expects (gave_lined x _ _ _ c.in-Ok-read_expr.e first))))
