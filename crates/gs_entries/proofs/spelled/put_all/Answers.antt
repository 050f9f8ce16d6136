use Rattle.std.proofs.Common.{◌<◌, length, arith}
use Rattle.gs_entries.proofs.Loop.{item_fits}
use Rattle.gs_entries.proofs.spelled.put_all.Goals as goal

pub put-requires : goal.put-requires
put-requires g c =
    let lt : c.loop-item.item-index < length c.args.items.now = omega arith in
    item_fits g.T.Spelled.format c.args.items.now c.loop-item.item-index c.item-item.result lt c.item-item.is c.loop-item.invariant.fits
