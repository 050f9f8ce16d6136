use Rattle.std.proofs.Common.{refl, List, ◌+◌, ap, arith, subst, []}
use Rattle.gs_tree.specs.Sign.{close_brace, open_paren, else_}
use Rattle.gs_parse.specs.Reads.{left, Anything}
use Rattle.gs_parse.proofs.Chain.{then_word, stop_word, then_choice, else_choice, then_part, stop_part, gave, memory_err, no_memory}
use Rattle.gs_parse.specs.Notation.{a_code, condition, body}
use Rattle.gs_tree.specs.View.{code_of}
use Rattle.gs_parse.specs.Notation.{a_body, rest_of, stmts, for_first, for_test, for_step}
use Rattle.gs_parse.specs.Blocks.{closed_of, body_of}
use Rattle.gs_parse.specs.Grammar.{named_rule}
use Rattle.gs_parse.specs.Reads.{Reads}
use Rattle.std.specs.Prelude.{ℕ}
use Rattle.gs_parse.specs.Words.{word_sign}
use Rattle.gs_tree.specs.View.{codes}
use Rattle.gs_parse.specs.declared.begin.Begin.TheVariants as b
use Rattle.gs_parse.proofs.Choices.{map_push, map_first}
use Rattle.gs_parse.proofs.Statements.{rest_by, body_block, body_one, body_deep, body_unfit, stmts_end, stmts_more, stmts_stop, stmts_deep, stmts_unfit}
use Rattle.gs_parse.proofs.stmt.+stmt.Goals as goal

pub read_rest-returns-in-Empty-clause-reads : goal.read_rest-returns-in-Empty-clause-reads
read_rest-returns-in-Empty-clause-reads t c = rest_by b.Empty _ c.args.depth c.args.line _ _ _ _ c.in-Empty.is (gave a_code _ code_of _ _ (c.empty_stmt.ensures))

pub read_rest-returns-in-Ok-clause-reads : goal.read_rest-returns-in-Ok-clause-reads
read_rest-returns-in-Ok-clause-reads t c = rest_by b.Block _ c.args.depth c.args.line _ _ _ _ c.in-Block.is (then_part a_code (stmts (c.args.depth + 1) close_brace []) _ _ _ _ _ _ _ _ c.in-Ok.ensures.reads (gave a_code _ code_of _ _ (c.block_stmt.ensures)))

pub read_rest-returns-in-Err-clause-reads : goal.read_rest-returns-in-Err-clause-reads
read_rest-returns-in-Err-clause-reads t c = rest_by b.Block _ c.args.depth c.args.line _ _ _ _ c.in-Block.is (stop_part a_code (stmts (c.args.depth + 1) close_brace []) _ _ _ _ _ _ c.in-Err.ensures.reads)

pub read_rest-returns-in-If-clause-reads : goal.read_rest-returns-in-If-clause-reads
read_rest-returns-in-If-clause-reads t c = rest_by b.If _ c.args.depth c.args.line _ _ _ _ c.in-If.is c.read_if.ensures.reads

pub read_rest-returns-in-While-clause-reads : goal.read_rest-returns-in-While-clause-reads
read_rest-returns-in-While-clause-reads t c = rest_by b.While _ c.args.depth c.args.line _ _ _ _ c.in-While.is c.read_while.ensures.reads

pub read_rest-returns-in-For-clause-reads : goal.read_rest-returns-in-For-clause-reads
read_rest-returns-in-For-clause-reads t c = rest_by b.For _ c.args.depth c.args.line _ _ _ _ c.in-For.is c.read_for.ensures.reads

pub read_rest-returns-in-Close-clause-reads : goal.read_rest-returns-in-Close-clause-reads
read_rest-returns-in-Close-clause-reads t c = rest_by b.Close _ c.args.depth c.args.line _ _ _ _ c.in-Close.is c.read_close.ensures.reads

pub read_rest-returns-in-Barrier-clause-reads : goal.read_rest-returns-in-Barrier-clause-reads
read_rest-returns-in-Barrier-clause-reads t c = rest_by b.Barrier _ c.args.depth c.args.line _ _ _ _ c.in-Barrier.is c.read_barrier.ensures.reads

pub read_rest-returns-in-Print-clause-reads : goal.read_rest-returns-in-Print-clause-reads
read_rest-returns-in-Print-clause-reads t c = rest_by b.Print _ c.args.depth c.args.line _ _ _ _ c.in-Print.is c.read_print.ensures.reads

pub read_rest-returns-in-PrintFile-clause-reads : goal.read_rest-returns-in-PrintFile-clause-reads
read_rest-returns-in-PrintFile-clause-reads t c = rest_by b.PrintFile _ c.args.depth c.args.line _ _ _ _ c.in-PrintFile.is c.read_print_file.ensures.reads

pub read_rest-returns-in-PrintStr-clause-reads : goal.read_rest-returns-in-PrintStr-clause-reads
read_rest-returns-in-PrintStr-clause-reads t c = rest_by b.PrintStr _ c.args.depth c.args.line _ _ _ _ c.in-PrintStr.is c.read_print_str.ensures.reads

pub read_rest-returns-in-Ok-copied-clause-reads : goal.read_rest-returns-in-Ok-copied-clause-reads
read_rest-returns-in-Ok-copied-clause-reads t c = rest_by (b.Name c.in-Name.w) _ c.args.depth c.args.line _ _ _ _ c.in-Name.is (subst (λ (z : List ℕ). Reads a_code (named_rule (record { line = c.args.line; text = z })) code_of (left c.args.tokens.now c.args.at.now) c.read_named.result (left c.args.tokens.now c.read_named.new.at)) c.in-Ok-copied.ensures c.read_named.ensures.reads)

pub read_rest-returns-in-Err-copied-clause-reads : goal.read_rest-returns-in-Err-copied-clause-reads
read_rest-returns-in-Err-copied-clause-reads t c = memory_err _ _ _ _ _ _ c.in-Err-copied.ensures

pub read_if-returns-in-Err-clause-reads : goal.read_if-returns-in-Err-clause-reads
read_if-returns-in-Err-clause-reads t c = (stop_part a_code (condition) _ _ _ _ _ _ c.in-Err.ensures.reads)

pub read_if-returns-in-Err-read_body-clause-reads : goal.read_if-returns-in-Err-read_body-clause-reads
read_if-returns-in-Err-read_body-clause-reads t c = (then_part a_code (condition) _ _ _ _ _ _ _ _ c.in-Ok.ensures.reads (stop_part a_code (body (c.args.depth + 1)) _ _ _ _ _ _ c.in-Err-read_body.ensures.reads))

pub read_if-returns-in-Ok-read_body-2-clause-reads : goal.read_if-returns-in-Ok-read_body-2-clause-reads
read_if-returns-in-Ok-read_body-2-clause-reads t c = (then_part a_code (condition) _ _ _ _ _ _ _ _ c.in-Ok.ensures.reads (then_part a_code (body (c.args.depth + 1)) _ _ _ _ _ _ _ _ c.in-Ok-read_body.ensures.reads (then_choice a_code else_ _ _ _ _ _ _ _ c.if-accept.ensures.takes (then_part a_code (body (c.args.depth + 1)) _ _ _ _ _ _ _ _ c.in-Ok-read_body-2.ensures.reads (gave a_code _ code_of _ _ (c.if_else_stmt.ensures))))))

pub read_if-returns-in-Err-read_body-2-clause-reads : goal.read_if-returns-in-Err-read_body-2-clause-reads
read_if-returns-in-Err-read_body-2-clause-reads t c = (then_part a_code (condition) _ _ _ _ _ _ _ _ c.in-Ok.ensures.reads (then_part a_code (body (c.args.depth + 1)) _ _ _ _ _ _ _ _ c.in-Ok-read_body.ensures.reads (then_choice a_code else_ _ _ _ _ _ _ _ c.if-accept.ensures.takes (stop_part a_code (body (c.args.depth + 1)) _ _ _ _ _ _ c.in-Err-read_body-2.ensures.reads))))

pub read_if-returns-clause-reads : goal.read_if-returns-clause-reads
read_if-returns-clause-reads t c = (then_part a_code (condition) _ _ _ _ _ _ _ _ c.in-Ok.ensures.reads (then_part a_code (body (c.args.depth + 1)) _ _ _ _ _ _ _ _ c.in-Ok-read_body.ensures.reads (else_choice a_code else_ _ _ _ _ _ _ _ c.if-accept.ensures.takes (gave a_code _ code_of _ _ (c.if_stmt.ensures)))))

pub read_while-returns-in-Err-clause-reads : goal.read_while-returns-in-Err-clause-reads
read_while-returns-in-Err-clause-reads t c = (stop_part a_code (condition) _ _ _ _ _ _ c.in-Err.ensures.reads)

pub read_while-returns-in-Err-read_body-clause-reads : goal.read_while-returns-in-Err-read_body-clause-reads
read_while-returns-in-Err-read_body-clause-reads t c = (then_part a_code (condition) _ _ _ _ _ _ _ _ c.in-Ok.ensures.reads (stop_part a_code (body (c.args.depth + 1)) _ _ _ _ _ _ c.in-Err-read_body.ensures.reads))

pub read_while-returns-in-Ok-read_body-clause-reads : goal.read_while-returns-in-Ok-read_body-clause-reads
read_while-returns-in-Ok-read_body-clause-reads t c = (then_part a_code (condition) _ _ _ _ _ _ _ _ c.in-Ok.ensures.reads (then_part a_code (body (c.args.depth + 1)) _ _ _ _ _ _ _ _ c.in-Ok-read_body.ensures.reads (gave a_code _ code_of _ _ (c.while_stmt.ensures))))

pub read_for-returns-in-Err-clause-reads : goal.read_for-returns-in-Err-clause-reads
read_for-returns-in-Err-clause-reads t c = stop_word a_code open_paren Anything _ _ _ _ _ c.in-Err.ensures.expects

pub read_for-returns-in-Err-read_first-clause-reads : goal.read_for-returns-in-Err-read_first-clause-reads
read_for-returns-in-Err-read_first-clause-reads t c = then_word a_code open_paren Anything _ _ _ _ _ _ _ c.in-Ok.ensures.expects (stop_part a_code (for_first) _ _ _ _ _ _ c.in-Err-read_first.ensures.reads)

pub read_for-returns-in-Err-read_test-clause-reads : goal.read_for-returns-in-Err-read_test-clause-reads
read_for-returns-in-Err-read_test-clause-reads t c = then_word a_code open_paren Anything _ _ _ _ _ _ _ c.in-Ok.ensures.expects (then_part a_code (for_first) _ _ _ _ _ _ _ _ c.in-Ok-read_first.ensures.reads (stop_part a_code (for_test) _ _ _ _ _ _ c.in-Err-read_test.ensures.reads))

pub read_for-returns-in-Err-read_step-clause-reads : goal.read_for-returns-in-Err-read_step-clause-reads
read_for-returns-in-Err-read_step-clause-reads t c = then_word a_code open_paren Anything _ _ _ _ _ _ _ c.in-Ok.ensures.expects (then_part a_code (for_first) _ _ _ _ _ _ _ _ c.in-Ok-read_first.ensures.reads (then_part a_code (for_test) _ _ _ _ _ _ _ _ c.in-Ok-read_test.ensures.reads (stop_part a_code (for_step) _ _ _ _ _ _ c.in-Err-read_step.ensures.reads)))

pub read_for-returns-in-Err-read_body-clause-reads : goal.read_for-returns-in-Err-read_body-clause-reads
read_for-returns-in-Err-read_body-clause-reads t c = then_word a_code open_paren Anything _ _ _ _ _ _ _ c.in-Ok.ensures.expects (then_part a_code (for_first) _ _ _ _ _ _ _ _ c.in-Ok-read_first.ensures.reads (then_part a_code (for_test) _ _ _ _ _ _ _ _ c.in-Ok-read_test.ensures.reads (then_part a_code (for_step) _ _ _ _ _ _ _ _ c.in-Ok-read_step.ensures.reads (stop_part a_code (body (c.args.depth + 1)) _ _ _ _ _ _ c.in-Err-read_body.ensures.reads))))

pub read_for-returns-in-Ok-read_body-clause-reads : goal.read_for-returns-in-Ok-read_body-clause-reads
read_for-returns-in-Ok-read_body-clause-reads t c = then_word a_code open_paren Anything _ _ _ _ _ _ _ c.in-Ok.ensures.expects (then_part a_code (for_first) _ _ _ _ _ _ _ _ c.in-Ok-read_first.ensures.reads (then_part a_code (for_test) _ _ _ _ _ _ _ _ c.in-Ok-read_test.ensures.reads (then_part a_code (for_step) _ _ _ _ _ _ _ _ c.in-Ok-read_step.ensures.reads (then_part a_code (body (c.args.depth + 1)) _ _ _ _ _ _ _ _ c.in-Ok-read_body.ensures.reads (gave a_code _ code_of _ _ (c.for_stmt.ensures))))))

pub read_body-returns-in-Ok-clause-reads : goal.read_body-returns-in-Ok-clause-reads
read_body-returns-in-Ok-clause-reads t c = body_block c.args.depth body_of _ _ _ _ c.if-accept.ensures.takes (then_part a_body (stmts c.args.depth close_brace []) _ _ _ _ _ _ _ _ c.in-Ok.ensures.reads (gave a_body _ body_of _ _ (refl)))

pub read_body-returns-in-Err-clause-reads : goal.read_body-returns-in-Err-clause-reads
read_body-returns-in-Err-clause-reads t c = body_block c.args.depth body_of _ _ _ _ c.if-accept.ensures.takes (stop_part a_body (stmts c.args.depth close_brace []) _ _ _ _ _ _ c.in-Err.ensures.reads)

pub read_body-returns-in-None-clause-reads : goal.read_body-returns-in-None-clause-reads
read_body-returns-in-None-clause-reads t c = body_unfit c.args.depth body_of _ _ c.if-accept.ensures.takes c.in-None.ensures.starts

pub read_body-returns-then-depth-ge-LIMIT-clause-reads : goal.read_body-returns-then-depth-ge-LIMIT-clause-reads
read_body-returns-then-depth-ge-LIMIT-clause-reads t c = body_deep c.args.depth c.in-Some.start body_of _ _ _ c.if-accept.ensures.takes c.in-Some.ensures.starts c.if-depth-ge-LIMIT.true

pub read_body-returns-in-Err-read_rest-clause-reads : goal.read_body-returns-in-Err-read_rest-clause-reads
read_body-returns-in-Err-read_rest-clause-reads t c = body_one c.args.depth c.in-Some.start body_of _ _ _ _ _ c.if-accept.ensures.takes c.in-Some.ensures.starts c.if-depth-ge-LIMIT.false (stop_part a_body (rest_of _ _) _ _ _ _ _ _ c.in-Err-read_rest.ensures.reads)

pub read_body-returns-in-Ok-push-clause-reads : goal.read_body-returns-in-Ok-push-clause-reads
read_body-returns-in-Ok-push-clause-reads t c = body_one c.args.depth c.in-Some.start body_of _ _ _ _ _ c.if-accept.ensures.takes c.in-Some.ensures.starts c.if-depth-ge-LIMIT.false (then_part a_body (rest_of _ _) _ _ _ _ _ _ _ _ c.in-Ok-read_rest.ensures.reads (gave a_body _ body_of _ _ (ap codes (map_first code_of _ _ _ c.new-all.ensures.items c.in-Ok-push.ensures.items))))

pub read_body-returns-in-Err-push-clause-reads : goal.read_body-returns-in-Err-push-clause-reads
read_body-returns-in-Err-push-clause-reads t c = no_memory _ _ _ _ _

pub read_stmts-returns-then-accept-clause-reads : goal.read_stmts-returns-then-accept-clause-reads
read_stmts-returns-then-accept-clause-reads t c = c.stmts.invariant.reads _ _ (stmts_end c.args.depth (word_sign c.args.closer) _ _ closed_of _ _ _ c.if-accept.ensures.takes c.line_at-line.ensures refl)

pub read_stmts-returns-in-None-clause-reads : goal.read_stmts-returns-in-None-clause-reads
read_stmts-returns-in-None-clause-reads t c = c.stmts.invariant.reads _ _ (stmts_unfit c.args.depth (word_sign c.args.closer) _ closed_of _ _ c.if-accept.ensures.takes c.in-None.ensures.starts)

pub read_stmts-returns-then-depth-ge-LIMIT-clause-reads : goal.read_stmts-returns-then-depth-ge-LIMIT-clause-reads
read_stmts-returns-then-depth-ge-LIMIT-clause-reads t c = c.stmts.invariant.reads _ _ (stmts_deep c.args.depth (word_sign c.args.closer) _ c.in-Some.start closed_of _ _ _ c.if-accept.ensures.takes c.in-Some.ensures.starts c.if-depth-ge-LIMIT.true)

pub read_stmts-returns-in-Err-clause-reads : goal.read_stmts-returns-in-Err-clause-reads
read_stmts-returns-in-Err-clause-reads t c = c.stmts.invariant.reads _ _ (stmts_stop c.args.depth (word_sign c.args.closer) _ c.in-Some.start closed_of _ _ _ _ _ c.if-accept.ensures.takes c.in-Some.ensures.starts c.if-depth-ge-LIMIT.false c.in-Err.ensures.reads)

pub read_stmts-stmts-preserved : goal.read_stmts-stmts-preserved
read_stmts-stmts-preserved t c = record { onward = omega (arith, c.stmts.invariant.onward, c.if-accept.ensures.onward, c.in-Ok.ensures.onward); reads = λ result new r. c.stmts.invariant.reads result new (stmts_more c.args.depth (word_sign c.args.closer) _ c.in-Some.start closed_of _ _ _ _ c.in-Ok.next _ c.if-accept.ensures.takes c.in-Some.ensures.starts c.if-depth-ge-LIMIT.false c.in-Ok.ensures.reads (map_push code_of _ _ _ c.in-Ok-push.ensures.items) result new r) }

pub read_stmts-returns-in-Err-push-clause-reads : goal.read_stmts-returns-in-Err-push-clause-reads
read_stmts-returns-in-Err-push-clause-reads t c = no_memory _ _ _ _ _
