use Rattle.gs_tree.specs.Sign.{open_paren, close_paren, semicolon}
use Rattle.gs_parse.specs.Notation.{a_program}
use Rattle.gs_parse.specs.Reads.{Anything}
use Rattle.gs_parse.proofs.Chain.{then_word, stop_word}
use Rattle.gs_parse.proofs.Framing.{then_zero, stop_zero}
use Rattle.gs_parse.proofs.frame.read_off.Goals as goal

pub returns-in-Err-clause-reads : goal.returns-in-Err-clause-reads
returns-in-Err-clause-reads c = (stop_word a_program open_paren Anything _ _ _ _ _ c.in-Err.ensures.expects)

pub returns-in-Err-take_zero-clause-reads : goal.returns-in-Err-take_zero-clause-reads
returns-in-Err-take_zero-clause-reads c = (then_word a_program open_paren Anything _ _ _ _ _ _ _ c.in-Ok.ensures.expects (stop_zero _ a_program _ _ _ _ _ c.in-Err-take_zero.ensures.takes))

pub returns-in-Err-expect-clause-reads : goal.returns-in-Err-expect-clause-reads
returns-in-Err-expect-clause-reads c = (then_word a_program open_paren Anything _ _ _ _ _ _ _ c.in-Ok.ensures.expects (then_zero a_program _ _ _ _ _ _ _ c.in-Ok-take_zero.ensures.takes (stop_word a_program close_paren Anything _ _ _ _ _ c.in-Err-expect.ensures.expects)))

pub returns-in-Ok-expect-2-clause-reads : goal.returns-in-Ok-expect-2-clause-reads
returns-in-Ok-expect-2-clause-reads c = (then_word a_program open_paren Anything _ _ _ _ _ _ _ c.in-Ok.ensures.expects (then_zero a_program _ _ _ _ _ _ _ c.in-Ok-take_zero.ensures.takes (then_word a_program close_paren Anything _ _ _ _ _ _ _ c.in-Ok-expect.ensures.expects (then_word a_program semicolon Anything _ _ _ _ _ _ _ c.in-Ok-expect-2.ensures.expects c.read_return.ensures.reads))))

pub returns-in-Err-expect-2-clause-reads : goal.returns-in-Err-expect-2-clause-reads
returns-in-Err-expect-2-clause-reads c = (then_word a_program open_paren Anything _ _ _ _ _ _ _ c.in-Ok.ensures.expects (then_zero a_program _ _ _ _ _ _ _ c.in-Ok-take_zero.ensures.takes (then_word a_program close_paren Anything _ _ _ _ _ _ _ c.in-Ok-expect.ensures.expects (stop_word a_program semicolon Anything _ _ _ _ _ c.in-Err-expect-2.ensures.expects))))
