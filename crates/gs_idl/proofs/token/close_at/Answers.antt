use Rattle.std.proofs.Common.{◌∙◌, sym, ap, arith, get_or}
use Rattle.gs_idl.specs.Lexicon.{is_feed, closes}
use Rattle.gs_idl.proofs.Cutting.{close_found, close_missing, close_step, closes_within, counted_more, cond_few}
use Rattle.gs_idl.proofs.token.close_at.Goals as goal

pub returns-then-closes-clause-value : goal.returns-then-closes-clause-value
returns-then-closes-clause-value c =
    close_found c.loop-i.i c.args.bytes.now c.loop-i-test.true (ap closes (sym c.tail.ensures) ∙ sym c.closes.ensures ∙ c.if-closes.true) c.loop-i.invariant.rest

pub returns-then-closes-clause-within : goal.returns-then-closes-clause-within
returns-then-closes-clause-within c = closes_within c.loop-i.i c.args.bytes.now c.tail.result.now c.tail.ensures (sym c.closes.ensures ∙ c.if-closes.true)

pub loop-i-preserved : goal.loop-i-preserved
loop-i-preserved c = record {
  rest = close_step c.loop-i.i c.args.bytes.now c.loop-i-test.true (ap closes (sym c.tail.ensures) ∙ sym c.closes.ensures ∙ c.if-closes.false) c.loop-i.invariant.rest;
  feeds = counted_more c.counted-feeds.result c.loop-i.feeds c.loop-i.i c.args.bytes.now c.loop-i-test.true c.loop-i.invariant.feeds c.counted-feeds.ensures;
  few = omega (arith, cond_few (is_feed (get_or c.args.bytes.now c.loop-i.i 0)));
}

pub returns-clause-value : goal.returns-clause-value
returns-clause-value c = close_missing c.loop-i.i c.args.bytes.now c.loop-i-test.false c.loop-i.invariant.rest
