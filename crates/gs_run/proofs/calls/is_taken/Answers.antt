use Rattle.std.proofs.Common.{◌∙◌, sym, arith}
use Rattle.gs_broker.specs.Listed.{entries_in}
use Rattle.gs_run.proofs.Listing.{tells}
use Rattle.gs_run.proofs.Taking.{taken_here, taken_later, taken_none}
use Rattle.gs_run.proofs.calls.is_taken.Goals as goal

pub returns-then-takes : goal.returns-then-takes
returns-then-takes c =
    let ws = entries_in c.args.workers.now in
    let t = tells c.args.workers.now in
    sym (sym c.loop-w.invariant ∙ taken_here ws c.args.op c.loop-w.w
    (let below = c.loop-w-test.true in let count = c.count-w-end.ensures.count in
    let same = t.count in omega (arith, below, count, same))
    (sym (t.takes c.loop-w.w c.args.op) ∙ sym c.takes.ensures ∙ c.if-takes.true))

pub loop-w-preserved : goal.loop-w-preserved
loop-w-preserved c =
    let ws = entries_in c.args.workers.now in
    let t = tells c.args.workers.now in
    taken_later ws c.args.op c.loop-w.w
    (let below = c.loop-w-test.true in let count = c.count-w-end.ensures.count in
    let same = t.count in omega (arith, below, count, same))
    (sym (t.takes c.loop-w.w c.args.op) ∙ sym c.takes.ensures ∙ c.if-takes.false)
    ∙ c.loop-w.invariant

pub returns : goal.returns
returns c =
    let ws = entries_in c.args.workers.now in
    let t = tells c.args.workers.now in
    sym (sym c.loop-w.invariant ∙ taken_none ws c.args.op c.loop-w.w
    (let end = c.loop-w-test.false in let count = c.count-w-end.ensures.count in
    let same = t.count in omega (arith, end, count, same)))
