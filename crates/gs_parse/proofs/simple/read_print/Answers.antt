use Rattle.gs_tree.specs.Sign.{open_paren}
use Rattle.gs_parse.specs.Reads.{Anything}
use Rattle.gs_parse.proofs.Chain.{then_word, stop_word, then_part, stop_part, gave}
use Rattle.gs_parse.specs.Notation.{a_code, printing}
use Rattle.gs_tree.specs.View.{code_of}
use Rattle.gs_parse.proofs.simple.read_print.Goals as goal

pub returns-in-Err-clause-reads : goal.returns-in-Err-clause-reads
returns-in-Err-clause-reads c = (stop_word a_code open_paren Anything _ _ _ _ _ c.in-Err.ensures.expects)

pub returns-in-Err-read_printing-clause-reads : goal.returns-in-Err-read_printing-clause-reads
returns-in-Err-read_printing-clause-reads c = (then_word a_code open_paren Anything _ _ _ _ _ _ _ c.in-Ok.ensures.expects (stop_part a_code (printing) _ _ _ _ _ _ c.in-Err-read_printing.ensures.reads))

pub returns-clause-reads : goal.returns-clause-reads
returns-clause-reads c = (then_word a_code open_paren Anything _ _ _ _ _ _ _ c.in-Ok.ensures.expects (then_part a_code (printing) _ _ _ _ _ _ _ _ c.in-Ok-read_printing.ensures.reads (gave a_code _ code_of _ _ (c.print_stmt.ensures))))
