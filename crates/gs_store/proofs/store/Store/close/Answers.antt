use Rattle.std.proofs.Common.{refl}
use Rattle.gs_store.proofs.Following.{closed_follows, is_marked, closed_fits}
use Rattle.gs_store.proofs.store.Store.close.Goals as goal

pub add-requires-clause-order : goal.add-requires-clause-order
add-requires-clause-order g c = closed_follows c.args.self.now.entries c.requires.gated

pub add-requires-clause-marked : goal.add-requires-clause-marked
add-requires-clause-marked g c = is_marked c.args.self.now c.self.inside.log c.self.inside.book _
    c.self.invariant.0 c.self.view_is c.requires.gated refl

pub add-requires-clause-fits : goal.add-requires-clause-fits
add-requires-clause-fits g c = closed_fits
