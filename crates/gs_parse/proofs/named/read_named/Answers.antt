use Rattle.gs_tree.specs.Sign.{open_paren, semicolon, equal}
use Rattle.gs_parse.specs.Reads.{Anything}
use Rattle.gs_parse.proofs.Chain.{then_word, stop_word, then_choice, else_choice, then_part, stop_part, gave}
use Rattle.gs_parse.specs.Notation.{a_code, assigned}
use Rattle.gs_tree.specs.View.{name_of, code_of}
use Rattle.gs_parse.proofs.named.read_named.Goals as goal

pub returns-then-accept-clause-reads : goal.returns-then-accept-clause-reads
returns-then-accept-clause-reads c = (then_choice a_code open_paren _ _ _ _ _ _ _ c.if-accept.ensures.takes c.read_call.ensures.reads)

pub returns-then-accept-2-clause-reads : goal.returns-then-accept-2-clause-reads
returns-then-accept-2-clause-reads c = (else_choice a_code open_paren _ _ _ _ _ _ _ c.if-accept.ensures.takes (then_choice a_code equal _ _ _ _ _ _ _ c.if-accept-2.ensures.takes c.read_set.ensures.reads))

pub returns-in-Err-clause-reads : goal.returns-in-Err-clause-reads
returns-in-Err-clause-reads c = (else_choice a_code open_paren _ _ _ _ _ _ _ c.if-accept.ensures.takes (else_choice a_code equal _ _ _ _ _ _ _ c.if-accept-2.ensures.takes (stop_part a_code (assigned (name_of c.args.name)) _ _ _ _ _ _ c.in-Err.ensures.reads)))

pub returns-in-Err-expect-clause-reads : goal.returns-in-Err-expect-clause-reads
returns-in-Err-expect-clause-reads c = (else_choice a_code open_paren _ _ _ _ _ _ _ c.if-accept.ensures.takes (else_choice a_code equal _ _ _ _ _ _ _ c.if-accept-2.ensures.takes (then_part a_code (assigned (name_of c.args.name)) _ _ _ _ _ _ _ _ c.in-Ok.ensures.reads (stop_word a_code semicolon Anything _ _ _ _ _ c.in-Err-expect.ensures.expects))))

pub returns-in-Ok-expect-clause-reads : goal.returns-in-Ok-expect-clause-reads
returns-in-Ok-expect-clause-reads c = (else_choice a_code open_paren _ _ _ _ _ _ _ c.if-accept.ensures.takes (else_choice a_code equal _ _ _ _ _ _ _ c.if-accept-2.ensures.takes (then_part a_code (assigned (name_of c.args.name)) _ _ _ _ _ _ _ _ c.in-Ok.ensures.reads (then_word a_code semicolon Anything _ _ _ _ _ _ _ c.in-Ok-expect.ensures.expects (gave a_code _ code_of _ _ (c.set_stmt.ensures))))))
