use Rattle.std.proofs.Common.{arith, ◌+◌}
use Rattle.gs_broker.proofs.Totals.{total_set}
use Rattle.gs_broker.proofs.counts.take_slot.Goals as goal

pub returns-clause-total : goal.returns-clause-total
returns-clause-total c =
    let now = c.index_mut.result.now in
    let set = total_set c.args.busy.now.items c.args.w (now + 1) now c.requires.within in
    let was = c.index_mut.ensures.value in omega arith
