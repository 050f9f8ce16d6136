use Rattle.std.proofs.Common.{[]}
use Rattle.gs_tree.specs.Sign.{open_paren, close_paren, semicolon, gs_off}
use Rattle.gs_parse.specs.Notation.{a_program, stmts}
use Rattle.gs_parse.specs.Reads.{Anything}
use Rattle.gs_parse.proofs.Chain.{then_word, stop_word, then_part, stop_part}
use Rattle.gs_parse.proofs.frame.read_on.Goals as goal

pub returns-in-Err-clause-reads : goal.returns-in-Err-clause-reads
returns-in-Err-clause-reads c = (stop_word a_program open_paren Anything _ _ _ _ _ c.in-Err.ensures.expects)

pub returns-in-Err-expect-clause-reads : goal.returns-in-Err-expect-clause-reads
returns-in-Err-expect-clause-reads c = (then_word a_program open_paren Anything _ _ _ _ _ _ _ c.in-Ok.ensures.expects (stop_word a_program close_paren Anything _ _ _ _ _ c.in-Err-expect.ensures.expects))

pub returns-in-Err-expect-2-clause-reads : goal.returns-in-Err-expect-2-clause-reads
returns-in-Err-expect-2-clause-reads c = (then_word a_program open_paren Anything _ _ _ _ _ _ _ c.in-Ok.ensures.expects (then_word a_program close_paren Anything _ _ _ _ _ _ _ c.in-Ok-expect.ensures.expects (stop_word a_program semicolon Anything _ _ _ _ _ c.in-Err-expect-2.ensures.expects)))

pub returns-in-Ok-read_stmts-clause-reads : goal.returns-in-Ok-read_stmts-clause-reads
returns-in-Ok-read_stmts-clause-reads c = (then_word a_program open_paren Anything _ _ _ _ _ _ _ c.in-Ok.ensures.expects (then_word a_program close_paren Anything _ _ _ _ _ _ _ c.in-Ok-expect.ensures.expects (then_word a_program semicolon Anything _ _ _ _ _ _ _ c.in-Ok-expect-2.ensures.expects (then_part a_program (stmts 0 gs_off []) _ _ _ _ _ _ _ _ c.in-Ok-read_stmts.ensures.reads c.read_off.ensures.reads))))

pub returns-in-Err-read_stmts-clause-reads : goal.returns-in-Err-read_stmts-clause-reads
returns-in-Err-read_stmts-clause-reads c = (then_word a_program open_paren Anything _ _ _ _ _ _ _ c.in-Ok.ensures.expects (then_word a_program close_paren Anything _ _ _ _ _ _ _ c.in-Ok-expect.ensures.expects (then_word a_program semicolon Anything _ _ _ _ _ _ _ c.in-Ok-expect-2.ensures.expects (stop_part a_program (stmts 0 gs_off []) _ _ _ _ _ _ c.in-Err-read_stmts.ensures.reads))))
