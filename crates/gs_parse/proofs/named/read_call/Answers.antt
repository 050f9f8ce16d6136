use Rattle.std.proofs.Common.{◌∙◌, ap}
use Rattle.gs_tree.specs.Sign.{close_paren, semicolon}
use Rattle.gs_parse.specs.Reads.{Anything}
use Rattle.gs_parse.proofs.Chain.{then_word, stop_word, then_choice, else_choice, then_part, stop_part, gave}
use Rattle.gs_parse.specs.Notation.{a_code, args}
use Rattle.gs_tree.specs.Program.{call}
use Rattle.gs_tree.specs.View.{name_of, passed_of, code_of}
use Rattle.std.specs.Prelude.{map}
use Rattle.gs_parse.proofs.named.read_call.Goals as goal

pub returns-in-Err-clause-reads : goal.returns-in-Err-clause-reads
returns-in-Err-clause-reads c = (then_choice a_code close_paren _ _ _ _ _ _ _ c.if-accept.ensures.takes (stop_word a_code semicolon Anything _ _ _ _ _ c.in-Err.ensures.expects))

pub returns-in-Ok-clause-reads : goal.returns-in-Ok-clause-reads
returns-in-Ok-clause-reads c = (then_choice a_code close_paren _ _ _ _ _ _ _ c.if-accept.ensures.takes (then_word a_code semicolon Anything _ _ _ _ _ _ _ c.in-Ok.ensures.expects (gave a_code _ code_of _ _ (c.call_stmt.ensures ∙ ap (λ z. call (name_of c.args.op) (map passed_of z)) c.new.ensures.items))))

pub returns-in-Err-read_args-clause-reads : goal.returns-in-Err-read_args-clause-reads
returns-in-Err-read_args-clause-reads c = (else_choice a_code close_paren _ _ _ _ _ _ _ c.if-accept.ensures.takes (stop_part a_code (args) _ _ _ _ _ _ c.in-Err-read_args.ensures.reads))

pub returns-in-Err-expect-clause-reads : goal.returns-in-Err-expect-clause-reads
returns-in-Err-expect-clause-reads c = (else_choice a_code close_paren _ _ _ _ _ _ _ c.if-accept.ensures.takes (then_part a_code (args) _ _ _ _ _ _ _ _ c.in-Ok-read_args.ensures.reads (stop_word a_code semicolon Anything _ _ _ _ _ c.in-Err-expect.ensures.expects)))

pub returns-in-Ok-expect-clause-reads : goal.returns-in-Ok-expect-clause-reads
returns-in-Ok-expect-clause-reads c = (else_choice a_code close_paren _ _ _ _ _ _ _ c.if-accept.ensures.takes (then_part a_code (args) _ _ _ _ _ _ _ _ c.in-Ok-read_args.ensures.reads (then_word a_code semicolon Anything _ _ _ _ _ _ _ c.in-Ok-expect.ensures.expects (gave a_code _ code_of _ _ (c.call_stmt-in-Ok-expect.ensures)))))
