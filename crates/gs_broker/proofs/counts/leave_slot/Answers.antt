use Rattle.std.proofs.Common.{arith, ◌≡◌, ap}
use Rattle.gs_broker.specs.Counts.{one}
use Rattle.gs_broker.proofs.Totals.{total_set}
use Rattle.gs_broker.proofs.counts.leave_slot.Goals as goal

pub returns-then-w-len-clause-total : goal.returns-then-w-len-clause-total
returns-then-w-len-clause-total c =
    let was = c.index.ensures in
    let set = total_set c.args.busy.now.items c.in-Some.w c.saturating_sub.result c.index.result.now (let len = c.len.ensures in let lt = c.if-w-len.true in let same = c.args.busy.now.ok.0 in omega arith) in
    let sub = c.saturating_sub.ensures in
    let here : one c.args.worker ≡ 1 = ap one c.in-Some.is in omega arith
