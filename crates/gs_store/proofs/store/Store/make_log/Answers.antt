use Rattle.std.proofs.Common.{ap, ◌∙◌, subst, sym}
use Rattle.gs_store.specs.Ordered.{AreInOrder}
use Rattle.gs_store.specs.State.{StoreState}
use Rattle.gs_store.proofs.Beginning.{made_stays, empty_log, made_disk}
use Rattle.gs_store.proofs.store.Store.make_log.Goals as goal

pub invariant_of-self : goal.invariant_of-self
invariant_of-self g c =
    let none = ap (λ (s : StoreState). s.entries) c.self.view_is ∙ c.requires.none in (
      empty_log c.in-Ok.log c.self.inside.book c.in-Ok.ensures.empty none,
      subst AreInOrder (sym none) tt,
    )

pub returns-in-Ok-clause-makes : goal.returns-in-Ok-clause-makes
returns-in-Ok-clause-makes g c = λ told.
    let a = g.D.Disk.state c.args.disk.now in let b = g.D.Disk.state c.create.new.disk in
    let stay = made_stays a b (c.create.ensures.any_moment told) (c.create.ensures.images told) in
    record {
      any_moment = stay;
      others = c.create.ensures.others told;
      disk = made_disk c.args.self.now a b c.requires.none (c.requires.disk_of_store told) stay
          (c.in-Ok.ensures.only told) (c.in-Ok.ensures.held told);
    }

pub returns-in-Err-clause-makes : goal.returns-in-Err-clause-makes
returns-in-Err-clause-makes g c = λ told.
    let a = g.D.Disk.state c.args.disk.now in let b = g.D.Disk.state c.create.new.disk in
    record {
      any_moment = made_stays a b (c.create.ensures.any_moment told) (c.create.ensures.images told);
      others = c.create.ensures.others told;
      disk = tt;
    }
