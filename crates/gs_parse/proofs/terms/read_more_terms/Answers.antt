use Rattle.std.proofs.Common.{refl, arith}
use Rattle.gs_tree.specs.Sign.{comma, close_paren}
use Rattle.gs_parse.specs.Reads.{Anything}
use Rattle.gs_parse.proofs.Chain.{no_memory}
use Rattle.gs_tree.specs.View.{term_of}
use Rattle.gs_parse.specs.Reads.{terms_in}
use Rattle.gs_parse.specs.Notation.{terms}
use Rattle.gs_parse.proofs.Choices.{terms_comma, terms_comma_stop, terms_close, either_stop, map_push}
use Rattle.gs_parse.proofs.terms.read_more_terms.Goals as goal

pub returns-in-Err-clause-reads : goal.returns-in-Err-clause-reads
returns-in-Err-clause-reads c = c.terms.invariant.reads _ _ (terms_comma_stop _ _ _ _ _ _ c.if-accept.ensures.takes c.in-Err.ensures.reads)

pub terms-smaller : goal.terms-smaller
terms-smaller c = omega (arith, (c.if-accept.ensures.further refl).0, (c.if-accept.ensures.further refl).1, c.in-Ok.ensures.onward)

pub terms-preserved : goal.terms-preserved
terms-preserved c = record { onward = omega (arith, c.terms.invariant.onward, c.if-accept.ensures.onward, c.in-Ok.ensures.onward); reads = λ result new r. c.terms.invariant.reads result new (terms_comma _ _ _ _ _ c.in-Ok.e _ c.if-accept.ensures.takes c.in-Ok.ensures.reads (map_push term_of _ _ _ c.in-Ok-push.ensures.items) result new r) }

pub returns-in-Err-push-clause-reads : goal.returns-in-Err-push-clause-reads
returns-in-Err-push-clause-reads c = no_memory _ _ _ _ _

pub returns-in-Ok-expect-clause-reads : goal.returns-in-Ok-expect-clause-reads
returns-in-Ok-expect-clause-reads c = c.terms.invariant.reads _ _ (terms_close Anything _ _ terms_in _ _ _ c.terms.all c.if-accept.ensures.takes c.in-Ok-expect.ensures.expects refl)

pub returns-in-Err-expect-clause-reads : goal.returns-in-Err-expect-clause-reads
returns-in-Err-expect-clause-reads c = c.terms.invariant.reads _ _ (either_stop terms comma close_paren Anything _ _ _ _ _ _ c.if-accept.ensures.takes c.in-Err-expect.ensures.expects)
