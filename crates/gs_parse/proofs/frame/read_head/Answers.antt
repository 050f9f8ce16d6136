use Rattle.std.proofs.Common.{[]}
use Rattle.gs_tree.specs.Sign.{close_paren, open_brace, gs_on}
use Rattle.gs_parse.specs.Notation.{a_program, decls, starts}
use Rattle.gs_parse.specs.Reads.{Anything}
use Rattle.gs_parse.specs.Frame.{settings_in}
use Rattle.gs_parse.proofs.Chain.{then_word, stop_word, then_part, stop_part}
use Rattle.gs_parse.proofs.frame.read_head.Goals as goal

pub returns-in-Err-clause-reads : goal.returns-in-Err-clause-reads
returns-in-Err-clause-reads c = (stop_word a_program close_paren Anything _ _ _ _ _ c.in-Err.ensures.expects)

pub returns-in-Err-expect-clause-reads : goal.returns-in-Err-expect-clause-reads
returns-in-Err-expect-clause-reads c = (then_word a_program close_paren Anything _ _ _ _ _ _ _ c.in-Ok.ensures.expects (stop_word a_program open_brace Anything _ _ _ _ _ c.in-Err-expect.ensures.expects))

pub returns-in-Err-read_decls-clause-reads : goal.returns-in-Err-read_decls-clause-reads
returns-in-Err-read_decls-clause-reads c = (then_word a_program close_paren Anything _ _ _ _ _ _ _ c.in-Ok.ensures.expects (then_word a_program open_brace Anything _ _ _ _ _ _ _ c.in-Ok-expect.ensures.expects (stop_part a_program (decls (record { vars = []; first = [] })) _ _ _ _ _ _ c.in-Err-read_decls.ensures.reads)))

pub returns-in-Err-read_starts-clause-reads : goal.returns-in-Err-read_starts-clause-reads
returns-in-Err-read_starts-clause-reads c = (then_word a_program close_paren Anything _ _ _ _ _ _ _ c.in-Ok.ensures.expects (then_word a_program open_brace Anything _ _ _ _ _ _ _ c.in-Ok-expect.ensures.expects (then_part a_program (decls (record { vars = []; first = [] })) _ _ _ _ _ _ _ _ c.in-Ok-read_decls.ensures.reads (stop_part a_program (starts (settings_in c.in-Ok-read_decls.all.first)) _ _ _ _ _ _ c.in-Err-read_starts.ensures.reads))))

pub returns-in-Ok-expect-2-clause-reads : goal.returns-in-Ok-expect-2-clause-reads
returns-in-Ok-expect-2-clause-reads c = (then_word a_program close_paren Anything _ _ _ _ _ _ _ c.in-Ok.ensures.expects (then_word a_program open_brace Anything _ _ _ _ _ _ _ c.in-Ok-expect.ensures.expects (then_part a_program (decls (record { vars = []; first = [] })) _ _ _ _ _ _ _ _ c.in-Ok-read_decls.ensures.reads (then_part a_program (starts (settings_in c.in-Ok-read_decls.all.first)) _ _ _ _ _ _ _ _ c.in-Ok-read_starts.ensures.reads (then_word a_program gs_on Anything _ _ _ _ _ _ _ c.in-Ok-expect-2.ensures.expects c.read_on.ensures.reads)))))

pub returns-in-Err-expect-2-clause-reads : goal.returns-in-Err-expect-2-clause-reads
returns-in-Err-expect-2-clause-reads c = (then_word a_program close_paren Anything _ _ _ _ _ _ _ c.in-Ok.ensures.expects (then_word a_program open_brace Anything _ _ _ _ _ _ _ c.in-Ok-expect.ensures.expects (then_part a_program (decls (record { vars = []; first = [] })) _ _ _ _ _ _ _ _ c.in-Ok-read_decls.ensures.reads (then_part a_program (starts (settings_in c.in-Ok-read_decls.all.first)) _ _ _ _ _ _ _ _ c.in-Ok-read_starts.ensures.reads (stop_word a_program gs_on Anything _ _ _ _ _ c.in-Err-expect-2.ensures.expects)))))
