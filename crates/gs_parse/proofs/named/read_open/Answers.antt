use Rattle.std.proofs.Common.{◌∙◌, ap, sym}
use Rattle.gs_tree.specs.Sign.{comma, open_paren, close_paren, semicolon}
use Rattle.gs_parse.specs.Grammar.{expr}
use Rattle.gs_parse.specs.Reads.{Anything}
use Rattle.gs_parse.proofs.Chain.{then_word, stop_word, then_part, stop_part, gave}
use Rattle.gs_parse.specs.Notation.{a_code}
use Rattle.gs_tree.specs.Program.{open_file}
use Rattle.gs_tree.specs.View.{name_of, term_of, code_of}
use Rattle.gs_parse.proofs.Modes.{then_mode, stop_mode}
use Rattle.gs_tree.specs.declared.tree.Mode.{Mode}
use Rattle.gs_parse.proofs.named.read_open.Goals as goal

pub returns-in-Err-clause-reads : goal.returns-in-Err-clause-reads
returns-in-Err-clause-reads c = (stop_word a_code open_paren Anything _ _ _ _ _ c.in-Err.ensures.expects)

pub returns-in-Err-read_expr-clause-reads : goal.returns-in-Err-read_expr-clause-reads
returns-in-Err-read_expr-clause-reads c = (then_word a_code open_paren Anything _ _ _ _ _ _ _ c.in-Ok.ensures.expects (stop_part a_code (expr 0 0) _ _ _ _ _ _ c.in-Err-read_expr.ensures.reads))

pub returns-in-Err-expect-clause-reads : goal.returns-in-Err-expect-clause-reads
returns-in-Err-expect-clause-reads c = (then_word a_code open_paren Anything _ _ _ _ _ _ _ c.in-Ok.ensures.expects (then_part a_code (expr 0 0) _ _ _ _ _ _ _ _ c.in-Ok-read_expr.ensures.reads (stop_word a_code comma Anything _ _ _ _ _ c.in-Err-expect.ensures.expects)))

pub returns-in-Err-take_mode-clause-reads : goal.returns-in-Err-take_mode-clause-reads
returns-in-Err-take_mode-clause-reads c = (then_word a_code open_paren Anything _ _ _ _ _ _ _ c.in-Ok.ensures.expects (then_part a_code (expr 0 0) _ _ _ _ _ _ _ _ c.in-Ok-read_expr.ensures.reads (then_word a_code comma Anything _ _ _ _ _ _ _ c.in-Ok-expect.ensures.expects (stop_mode a_code _ _ _ _ _ c.in-Err-take_mode.ensures.takes))))

pub returns-in-Err-expect-2-clause-reads : goal.returns-in-Err-expect-2-clause-reads
returns-in-Err-expect-2-clause-reads c = (then_word a_code open_paren Anything _ _ _ _ _ _ _ c.in-Ok.ensures.expects (then_part a_code (expr 0 0) _ _ _ _ _ _ _ _ c.in-Ok-read_expr.ensures.reads (then_word a_code comma Anything _ _ _ _ _ _ _ c.in-Ok-expect.ensures.expects (then_mode a_code _ _ _ _ c.in-Ok-take_mode.mode _ _ c.in-Ok-take_mode.ensures.takes (λ xm modeis. (stop_word a_code close_paren Anything _ _ _ _ _ c.in-Err-expect-2.ensures.expects))))))

pub returns-in-Err-expect-3-clause-reads : goal.returns-in-Err-expect-3-clause-reads
returns-in-Err-expect-3-clause-reads c = (then_word a_code open_paren Anything _ _ _ _ _ _ _ c.in-Ok.ensures.expects (then_part a_code (expr 0 0) _ _ _ _ _ _ _ _ c.in-Ok-read_expr.ensures.reads (then_word a_code comma Anything _ _ _ _ _ _ _ c.in-Ok-expect.ensures.expects (then_mode a_code _ _ _ _ c.in-Ok-take_mode.mode _ _ c.in-Ok-take_mode.ensures.takes (λ xm modeis. (then_word a_code close_paren Anything _ _ _ _ _ _ _ c.in-Ok-expect-2.ensures.expects (stop_word a_code semicolon Anything _ _ _ _ _ c.in-Err-expect-3.ensures.expects)))))))

pub returns-clause-reads : goal.returns-clause-reads
returns-clause-reads c = (then_word a_code open_paren Anything _ _ _ _ _ _ _ c.in-Ok.ensures.expects (then_part a_code (expr 0 0) _ _ _ _ _ _ _ _ c.in-Ok-read_expr.ensures.reads (then_word a_code comma Anything _ _ _ _ _ _ _ c.in-Ok-expect.ensures.expects (then_mode a_code _ _ _ _ c.in-Ok-take_mode.mode _ _ c.in-Ok-take_mode.ensures.takes (λ xm modeis. (then_word a_code close_paren Anything _ _ _ _ _ _ _ c.in-Ok-expect-2.ensures.expects (then_word a_code semicolon Anything _ _ _ _ _ _ _ c.in-Ok-expect-3.ensures.expects (gave a_code _ code_of _ _ (c.open_stmt.ensures ∙ ap (λ (z : Mode). open_file c.args.to.line (name_of c.args.to) (term_of c.in-Ok-read_expr.path) z) (sym modeis))))))))))
