use Rattle.std.proofs.Common.{◌++◌, if◌then◌else◌, sym, subst}
use Rattle.gs_store.specs.State.{StoreState}
use Rattle.gs_site.specs.Site.{disk_of, link_of}
use Rattle.gs_core.specs.Core.{IsVerdict}
use Rattle.gs_engine.specs.Running.{LacksLengthIn, Concludes, IsFruitless}
use Rattle.gs_engine.specs.Sane.{moment_of}
use Rattle.gs_engine.specs.declared.running.RunFault.TheVariants as fault
use Rattle.gs_engine.proofs.Concluding.{failing, halt_lacks, given_shows, plain_concludes, sealed_concludes, halt_fruitless}
use Rattle.gs_engine.proofs.Users.{stay_here}
use Rattle.gs_engine.proofs.running.conclude.Goals as goal

pub returns-in-More-clause-concludes : goal.returns-in-More-clause-concludes
returns-in-More-clause-concludes g c = λ told. plain_concludes StoreState c.args.core.now
    c.args.store (disk_of c.args.site.now) (link_of c.args.site.now) c.args.verdict
    fault.NoMemory (λ cs k h is. tt {0})

pub returns-in-Fault-clause-concludes : goal.returns-in-Fault-clause-concludes
returns-in-Fault-clause-concludes g c = λ told. plain_concludes StoreState c.args.core.now
    c.args.store (disk_of c.args.site.now) (link_of c.args.site.now) c.args.verdict
    (fault.Program c.in-Fault.line c.in-Fault.kind)
    (λ cs k h is. (k, subst (IsVerdict cs.setup k (h ++ cs.noted)) c.in-Fault.is is))

pub returns-in-FuelOut-clause-concludes : goal.returns-in-FuelOut-clause-concludes
returns-in-FuelOut-clause-concludes g c = λ told. plain_concludes StoreState c.args.core.now
    c.args.store (disk_of c.args.site.now) (link_of c.args.site.now) c.args.verdict
    fault.FuelOut (λ cs k h is. (k, subst (IsVerdict cs.setup k (h ++ cs.noted)) c.in-FuelOut.is is))

pub returns-in-TaskLost-clause-concludes : goal.returns-in-TaskLost-clause-concludes
returns-in-TaskLost-clause-concludes g c = λ told cs k h j is.
    subst (λ e. Concludes cs h (g.D.Disk.state (disk_of c.args.site.now))
    (g.D.Disk.state (disk_of c.args.site.now)) (failing {T = StoreState} e))
    (sym c.if_failed.ensures)
    (plain_concludes StoreState c.args.core.now c.args.store (disk_of c.args.site.now)
    (link_of c.args.site.now) c.args.verdict
    (if c.args.failed then fault.TaskLost c.in-TaskLost.n else fault.NoMemory)
    (λ ds m q ends. given_shows StoreState ds.setup (q ++ ds.noted) c.args.failed
    (fault.TaskLost c.in-TaskLost.n)
    (m, subst (IsVerdict ds.setup m (q ++ ds.noted)) c.in-TaskLost.is ends)) cs k h j is)

pub returns-in-WorkersLost-clause-concludes : goal.returns-in-WorkersLost-clause-concludes
returns-in-WorkersLost-clause-concludes g c = λ told cs k h j is.
    subst (λ e. Concludes cs h (g.D.Disk.state (disk_of c.args.site.now))
    (g.D.Disk.state (disk_of c.args.site.now)) (failing {T = StoreState} e))
    (sym c.if_failed-in-WorkersLost.ensures)
    (plain_concludes StoreState c.args.core.now c.args.store (disk_of c.args.site.now)
    (link_of c.args.site.now) c.args.verdict
    (if c.args.failed then fault.WorkersLost c.in-WorkersLost.n else fault.NoMemory)
    (λ ds m q ends. given_shows StoreState ds.setup (q ++ ds.noted) c.args.failed
    (fault.WorkersLost c.in-WorkersLost.n)
    (m, subst (IsVerdict ds.setup m (q ++ ds.noted)) c.in-WorkersLost.is ends)) cs k h j is)

pub returns-in-Misfit-clause-concludes : goal.returns-in-Misfit-clause-concludes
returns-in-Misfit-clause-concludes g c = λ told. plain_concludes StoreState c.args.core.now
    c.args.store (disk_of c.args.site.now) (link_of c.args.site.now) c.args.verdict
    (fault.BadRecord c.in-Misfit.index)
    (λ cs k h is. (k, subst (IsVerdict cs.setup k (h ++ cs.noted)) c.in-Misfit.is is))

pub returns-in-Err-clause-refused : goal.returns-in-Err-clause-refused
returns-in-Err-clause-refused g c = λ told.
    subst (LacksLengthIn (g.D.Disk.state (disk_of c.seal.new.site)).folder) (sym c.stopped.ensures)
    (halt_lacks (g.D.Disk.state (disk_of c.seal.new.site)).folder c.in-Err.halt
    (c.in-Err.ensures.refused told))

pub returns-in-Ok-clause-concludes : goal.returns-in-Ok-clause-concludes
returns-in-Ok-clause-concludes g c = λ told. sealed_concludes StoreState
    (moment_of c.args.core.now c.args.store c.args.site.now) (disk_of c.seal.new.site)
    c.in-Ok.store c.args.verdict c.in-Ended.is (c.in-Ok.ensures.closes told)

pub returns-in-Fault-clause-users : goal.returns-in-Fault-clause-users
returns-in-Fault-clause-users g c = λ told fruitless. stay_here
    (g.D.Disk.state (disk_of c.args.site.now))

pub returns-in-FuelOut-clause-users : goal.returns-in-FuelOut-clause-users
returns-in-FuelOut-clause-users g c = λ told fruitless. stay_here
    (g.D.Disk.state (disk_of c.args.site.now))

pub returns-in-TaskLost-clause-users : goal.returns-in-TaskLost-clause-users
returns-in-TaskLost-clause-users g c = λ told fruitless. stay_here
    (g.D.Disk.state (disk_of c.args.site.now))

pub returns-in-WorkersLost-clause-users : goal.returns-in-WorkersLost-clause-users
returns-in-WorkersLost-clause-users g c = λ told fruitless. stay_here
    (g.D.Disk.state (disk_of c.args.site.now))

pub returns-in-Misfit-clause-users : goal.returns-in-Misfit-clause-users
returns-in-Misfit-clause-users g c = λ told fruitless. stay_here
    (g.D.Disk.state (disk_of c.args.site.now))

pub returns-in-More-clause-users : goal.returns-in-More-clause-users
returns-in-More-clause-users g c = λ told fruitless. stay_here
    (g.D.Disk.state (disk_of c.args.site.now))

pub returns-in-Err-clause-users : goal.returns-in-Err-clause-users
returns-in-Err-clause-users g c = λ told fruitless.
    absurd (halt_fruitless StoreState c.in-Err.halt
    (subst (λ e. IsFruitless (failing {T = StoreState} e)) c.stopped.ensures fruitless))
