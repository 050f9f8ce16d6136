use Rattle.std.proofs.Common.{refl}
use Rattle.gs_store.proofs.Following.{gate_follows, is_marked}
use Rattle.gs_store.proofs.store.Store.gate.Goals as goal

pub add-requires-clause-order : goal.add-requires-clause-order
add-requires-clause-order g c = gate_follows c.args.self.now.entries c.args.g c.requires.running

pub add-requires-clause-marked : goal.add-requires-clause-marked
add-requires-clause-marked g c = is_marked c.args.self.now c.self.inside.log c.self.inside.book _
    c.self.invariant.0 c.self.view_is c.requires.running refl
