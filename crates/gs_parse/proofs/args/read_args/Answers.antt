use Rattle.std.proofs.Common.{refl, arith}
use Rattle.gs_tree.specs.Sign.{comma, close_paren}
use Rattle.gs_parse.specs.Reads.{Anything}
use Rattle.gs_parse.proofs.Chain.{stop_part, no_memory}
use Rattle.gs_tree.specs.View.{passed_of}
use Rattle.gs_parse.specs.Reads.{passes_in}
use Rattle.gs_parse.specs.Notation.{all_passed, arg}
use Rattle.gs_parse.proofs.Choices.{args_first, args_comma, args_comma_stop, args_close, either_stop, map_push, map_first}
use Rattle.gs_parse.proofs.args.read_args.Goals as goal

pub returns-in-Err-clause-reads : goal.returns-in-Err-clause-reads
returns-in-Err-clause-reads c = stop_part all_passed arg _ _ _ _ _ _ c.in-Err.ensures.reads

pub returns-in-Err-push-clause-reads : goal.returns-in-Err-push-clause-reads
returns-in-Err-push-clause-reads c = no_memory _ _ _ _ _

pub more-init : goal.more-init
more-init c = record { onward = c.in-Ok.ensures.onward; reads = args_first _ _ _ c.in-Ok.first _ c.in-Ok.ensures.reads (map_first passed_of _ _ _ c.new-all.ensures.items c.in-Ok-push.ensures.items) }

pub returns-in-Err-read_arg-clause-reads : goal.returns-in-Err-read_arg-clause-reads
returns-in-Err-read_arg-clause-reads c = c.more.invariant.reads _ _ (args_comma_stop _ _ _ _ _ _ c.if-accept.ensures.takes c.in-Err-read_arg.ensures.reads)

pub more-smaller : goal.more-smaller
more-smaller c = omega (arith, (c.if-accept.ensures.further refl).0, (c.if-accept.ensures.further refl).1, c.in-Ok-read_arg.ensures.onward)

pub more-preserved : goal.more-preserved
more-preserved c = record { onward = omega (arith, c.more.invariant.onward, c.if-accept.ensures.onward, c.in-Ok-read_arg.ensures.onward); reads = λ result new r. c.more.invariant.reads result new (args_comma _ _ _ _ _ c.in-Ok-read_arg.a _ c.if-accept.ensures.takes c.in-Ok-read_arg.ensures.reads (map_push passed_of _ _ _ c.in-Ok-push-2.ensures.items) result new r) }

pub returns-in-Err-push-2-clause-reads : goal.returns-in-Err-push-2-clause-reads
returns-in-Err-push-2-clause-reads c = no_memory _ _ _ _ _

pub returns-in-Ok-expect-clause-reads : goal.returns-in-Ok-expect-clause-reads
returns-in-Ok-expect-clause-reads c = c.more.invariant.reads _ _ (args_close Anything _ _ passes_in _ _ _ c.more.all c.if-accept.ensures.takes c.in-Ok-expect.ensures.expects refl)

pub returns-in-Err-expect-clause-reads : goal.returns-in-Err-expect-clause-reads
returns-in-Err-expect-clause-reads c = c.more.invariant.reads _ _ (either_stop all_passed comma close_paren Anything _ _ _ _ _ _ c.if-accept.ensures.takes c.in-Err-expect.ensures.expects)
