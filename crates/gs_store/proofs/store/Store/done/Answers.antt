use Rattle.std.proofs.Common.{refl}
use Rattle.gs_store.proofs.Following.{done_follows, is_marked}
use Rattle.gs_store.proofs.store.Store.done.Goals as goal

pub add-requires-clause-order : goal.add-requires-clause-order
add-requires-clause-order g c =
    done_follows c.args.self.now.entries c.args.n c.args.op
    c.of-outs.result c.requires.running c.requires.not_done

pub add-requires-clause-marked : goal.add-requires-clause-marked
add-requires-clause-marked g c = is_marked c.args.self.now c.self.inside.log c.self.inside.book _
    c.self.invariant.0 c.self.view_is c.requires.running refl
