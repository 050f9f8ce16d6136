use Rattle.gs_tree.specs.Sign.{open_paren, close_paren, semicolon}
use Rattle.gs_parse.specs.Reads.{Anything}
use Rattle.gs_parse.proofs.Chain.{then_word, stop_word, gave}
use Rattle.gs_parse.specs.Notation.{a_code}
use Rattle.gs_tree.specs.View.{code_of}
use Rattle.gs_parse.proofs.simple.read_barrier.Goals as goal

pub returns-in-Err-clause-reads : goal.returns-in-Err-clause-reads
returns-in-Err-clause-reads c = (stop_word a_code open_paren Anything _ _ _ _ _ c.in-Err.ensures.expects)

pub returns-in-Err-expect-clause-reads : goal.returns-in-Err-expect-clause-reads
returns-in-Err-expect-clause-reads c = (then_word a_code open_paren Anything _ _ _ _ _ _ _ c.in-Ok.ensures.expects (stop_word a_code close_paren Anything _ _ _ _ _ c.in-Err-expect.ensures.expects))

pub returns-in-Err-expect-2-clause-reads : goal.returns-in-Err-expect-2-clause-reads
returns-in-Err-expect-2-clause-reads c = (then_word a_code open_paren Anything _ _ _ _ _ _ _ c.in-Ok.ensures.expects (then_word a_code close_paren Anything _ _ _ _ _ _ _ c.in-Ok-expect.ensures.expects (stop_word a_code semicolon Anything _ _ _ _ _ c.in-Err-expect-2.ensures.expects)))

pub returns-clause-reads : goal.returns-clause-reads
returns-clause-reads c = (then_word a_code open_paren Anything _ _ _ _ _ _ _ c.in-Ok.ensures.expects (then_word a_code close_paren Anything _ _ _ _ _ _ _ c.in-Ok-expect.ensures.expects (then_word a_code semicolon Anything _ _ _ _ _ _ _ c.in-Ok-expect-2.ensures.expects (gave a_code _ code_of _ _ (c.barrier_stmt.ensures)))))
