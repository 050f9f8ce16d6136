use Rattle.gs_store.proofs.Beginning.{none_if_fresh, begun, not_begun}
use Rattle.gs_store.proofs.store.Store.begin.Goals as goal

pub make_log-requires-clause-none : goal.make_log-requires-clause-none
make_log-requires-clause-none g c = none_if_fresh c.args.self.now.entries c.requires.fresh

pub returns-in-Err-clause-begins : goal.returns-in-Err-clause-begins
returns-in-Err-clause-begins g c = λ told.
    not_begun c.make_log.result c.in-Err.failure c.args.t.now (g.D.Disk.state c.args.disk.now)
    (g.D.Disk.state c.make_log.new.disk) (c.make_log.ensures.makes told)

pub returns-clause-begins : goal.returns-clause-begins
returns-clause-begins g c = λ told.
    begun c.add.result c.in_default.field-0 c.args.t.now c.in_ok-t.t c.make_log.new.self
    (g.D.Disk.state c.args.disk.now) (g.D.Disk.state c.make_log.new.disk)
    (g.D.Disk.state c.add.new.disk) c.in_default.ensures.store c.in_ok-t.ensures
    (c.in_default.ensures.makes told) (c.add.ensures.adds told)
