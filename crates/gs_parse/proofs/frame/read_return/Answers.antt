use Rattle.gs_tree.specs.Sign.{semicolon, return_}
use Rattle.gs_parse.specs.Notation.{a_program}
use Rattle.gs_parse.specs.Reads.{Anything}
use Rattle.gs_parse.proofs.Chain.{then_word, stop_word, then_choice, else_choice}
use Rattle.gs_parse.proofs.Framing.{then_zero, stop_zero}
use Rattle.gs_parse.proofs.frame.read_return.Goals as goal

pub returns-in-Err-clause-reads : goal.returns-in-Err-clause-reads
returns-in-Err-clause-reads c = (then_choice a_program return_ _ _ _ _ _ _ _ c.if-accept.ensures.takes (stop_zero _ a_program _ _ _ _ _ c.in-Err.ensures.takes))

pub returns-in-Ok-expect-clause-reads : goal.returns-in-Ok-expect-clause-reads
returns-in-Ok-expect-clause-reads c = (then_choice a_program return_ _ _ _ _ _ _ _ c.if-accept.ensures.takes (then_zero a_program _ _ _ _ _ _ _ c.in-Ok.ensures.takes (then_word a_program semicolon Anything _ _ _ _ _ _ _ c.in-Ok-expect.ensures.expects c.read_end.ensures.reads)))

pub returns-in-Err-expect-clause-reads : goal.returns-in-Err-expect-clause-reads
returns-in-Err-expect-clause-reads c = (then_choice a_program return_ _ _ _ _ _ _ _ c.if-accept.ensures.takes (then_zero a_program _ _ _ _ _ _ _ c.in-Ok.ensures.takes (stop_word a_program semicolon Anything _ _ _ _ _ c.in-Err-expect.ensures.expects)))

pub returns-clause-reads : goal.returns-clause-reads
returns-clause-reads c = (else_choice a_program return_ _ _ _ _ _ _ _ c.if-accept.ensures.takes c.read_end-2.ensures.reads)
