use Rattle.gs_tree.specs.Sign.{open_paren, main_, void_}
use Rattle.gs_parse.specs.Notation.{a_program}
use Rattle.gs_parse.specs.Reads.{Anything}
use Rattle.gs_parse.proofs.Chain.{then_word, stop_word, then_choice, else_choice}
use Rattle.gs_parse.proofs.frame.read_main.Goals as goal

pub returns-in-Err-clause-reads : goal.returns-in-Err-clause-reads
returns-in-Err-clause-reads c = (stop_word a_program main_ Anything _ _ _ _ _ c.in-Err.ensures.expects)

pub returns-in-Err-expect-clause-reads : goal.returns-in-Err-expect-clause-reads
returns-in-Err-expect-clause-reads c = (then_word a_program main_ Anything _ _ _ _ _ _ _ c.in-Ok.ensures.expects (stop_word a_program open_paren Anything _ _ _ _ _ c.in-Err-expect.ensures.expects))

pub returns-then-accept-clause-reads : goal.returns-then-accept-clause-reads
returns-then-accept-clause-reads c = (then_word a_program main_ Anything _ _ _ _ _ _ _ c.in-Ok.ensures.expects (then_word a_program open_paren Anything _ _ _ _ _ _ _ c.in-Ok-expect.ensures.expects (then_choice a_program void_ _ _ _ _ _ _ _ c.if-accept.ensures.takes c.read_head.ensures.reads)))

pub returns-clause-reads : goal.returns-clause-reads
returns-clause-reads c = (then_word a_program main_ Anything _ _ _ _ _ _ _ c.in-Ok.ensures.expects (then_word a_program open_paren Anything _ _ _ _ _ _ _ c.in-Ok-expect.ensures.expects (else_choice a_program void_ _ _ _ _ _ _ _ c.if-accept.ensures.takes c.read_head-2.ensures.reads)))
