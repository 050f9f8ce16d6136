use Rattle.std.proofs.Common.{arith}
use Rattle.gs_tree.specs.Sign.{semicolon, equal}
use Rattle.gs_tree.specs.View.{setting_of}
use Rattle.gs_parse.specs.Grammar.{expr}
use Rattle.gs_parse.specs.Notation.{settings}
use Rattle.gs_parse.specs.Reads.{Anything}
use Rattle.gs_parse.specs.Frame.{settings_in}
use Rattle.gs_parse.proofs.Chain.{then_word, stop_word, then_part, stop_part, no_memory}
use Rattle.gs_parse.proofs.Choices.{map_push}
use Rattle.gs_parse.proofs.Framing.{start_name, starts_end, starts_more}
use Rattle.gs_parse.proofs.frame.read_starts.Goals as goal

pub returns-in-Err-Unfit-clause-reads : goal.returns-in-Err-Unfit-clause-reads
returns-in-Err-Unfit-clause-reads c = c.starts.invariant.reads _ _ (starts_end c.starts.first _ _ c.in-Err-Unfit.field-0 c.in-Err-Unfit.field-0-is c.in-Err-Unfit.ensures.expects)

pub returns-in-Err : goal.returns-in-Err
returns-in-Err c = record { reads = no_memory settings _ settings_in _ _; onward = omega (arith, c.starts.invariant.onward, c.take_name.ensures.onward) }

pub returns-in-Err-expect-clause-reads : goal.returns-in-Err-expect-clause-reads
returns-in-Err-expect-clause-reads c = c.starts.invariant.reads _ _ (start_name (settings_in c.starts.first) settings_in _ _ c.in-Ok.to _ _ c.in-Ok.ensures.expects (stop_word settings equal Anything _ _ _ _ _ c.in-Err-expect.ensures.expects))

pub returns-in-Err-read_expr-clause-reads : goal.returns-in-Err-read_expr-clause-reads
returns-in-Err-read_expr-clause-reads c = c.starts.invariant.reads _ _ (start_name (settings_in c.starts.first) settings_in _ _ c.in-Ok.to _ _ c.in-Ok.ensures.expects (then_word settings equal Anything _ _ _ _ _ _ _ c.in-Ok-expect.ensures.expects (stop_part settings (expr 0 0) _ _ _ _ _ _ c.in-Err-read_expr.ensures.reads)))

pub returns-in-Err-expect-2-clause-reads : goal.returns-in-Err-expect-2-clause-reads
returns-in-Err-expect-2-clause-reads c = c.starts.invariant.reads _ _ (start_name (settings_in c.starts.first) settings_in _ _ c.in-Ok.to _ _ c.in-Ok.ensures.expects (then_word settings equal Anything _ _ _ _ _ _ _ c.in-Ok-expect.ensures.expects (then_part settings (expr 0 0) _ _ _ _ _ _ _ _ c.in-Ok-read_expr.ensures.reads (stop_word settings semicolon Anything _ _ _ _ _ c.in-Err-expect-2.ensures.expects))))

pub starts-preserved : goal.starts-preserved
starts-preserved c = record { onward = omega (arith, c.starts.invariant.onward, c.take_name.ensures.onward, c.expect.ensures.onward, c.read_expr.ensures.onward, c.expect-in-starts.ensures.onward); reads = λ result new r. c.starts.invariant.reads result new (starts_more Anything Anything _ _ _ _ _ _ _ _ _ c.in-Ok.to c.in-Ok-read_expr.value c.in-Ok.ensures.expects c.in-Ok-expect.ensures.expects c.in-Ok-read_expr.ensures.reads c.in-Ok-expect-2.ensures.expects (map_push setting_of _ _ _ c.in-Ok-push.ensures.items) result new r) }

pub returns-in-Err-push-clause-reads : goal.returns-in-Err-push-clause-reads
returns-in-Err-push-clause-reads c = no_memory settings _ settings_in _ _
