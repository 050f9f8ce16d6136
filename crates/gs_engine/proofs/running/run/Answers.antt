use Rattle.std.proofs.Common.{Ok, sym, ap, subst}
use Rattle.gs_store.specs.State.{StoreState}
use Rattle.gs_site.specs.Site.{disk_of, link_of}
use Rattle.gs_engine.specs.Running.{Ran}
use Rattle.gs_engine.proofs.Abandoning.{whole_ran, given_up, given_caused}
use Rattle.gs_engine.proofs.Concluding.{failing}
use Rattle.gs_engine.specs.Users.{UsersStay}
use Rattle.gs_engine.proofs.running.run.Goals as goal

pub returns-in-Ok-clause-ran : goal.returns-in-Ok-clause-ran
returns-in-Ok-clause-ran g c = λ told call enters costs.
    let went = c.in-Ok.ensures.went told call enters costs in (
      went.0,
      whole_ran StoreState call (g.D.Disk.state (disk_of c.args.site.now))
          (g.D.Disk.state (disk_of c.go.new.site)) (link_of c.go.new.site) went.0
          (Ok c.in-Ok.store) went.1,
    )

pub returns-in-Err-clause-ran : goal.returns-in-Err-clause-ran
returns-in-Err-clause-ran g c = λ told call enters costs.
    let went = c.in-Err.ensures.went told call enters costs in (
      went.0,
      subst (λ d. Ran g.K.Link.tells call (g.D.Disk.state (disk_of c.args.site.now))
          (g.D.Disk.state d) (link_of c.abandon.new.self) went.0 (failing {T = StoreState} c.in-Err.fault))
          (sym c.abandon.ensures.disk)
          (given_up StoreState g.K.Link.jobs g.K.Link.faults call
          (g.D.Disk.state (disk_of c.args.site.now)) (g.D.Disk.state (disk_of c.go.new.site))
          (link_of c.go.new.site) (link_of c.abandon.new.self) went.0 c.in-Err.fault
          c.in-Err.ensures.idle c.abandon.ensures.abandons went.1),
    )

pub returns-in-Err-clause-cause : goal.returns-in-Err-clause-cause
returns-in-Err-clause-cause g c = given_caused StoreState
    (g.D.Disk.state (disk_of c.args.site.now)).faults (g.D.Disk.state (disk_of c.go.new.site)).faults
    (g.D.Disk.state (disk_of c.abandon.new.self)).faults (g.K.Link.faults (link_of c.args.site.now))
    (g.K.Link.faults (link_of c.go.new.site)) (g.K.Link.faults (link_of c.abandon.new.self))
    (failing {T = StoreState} c.in-Err.fault)
    (ap (λ d. (g.D.Disk.state d).faults) c.abandon.ensures.disk) c.abandon.ensures.rise
    c.in-Err.ensures.cause

pub returns-in-Err-clause-users : goal.returns-in-Err-clause-users
returns-in-Err-clause-users g c = λ told fruitless.
    subst (λ d. UsersStay (g.D.Disk.state (disk_of c.args.site.now)) (g.D.Disk.state d))
    (sym c.abandon.ensures.disk) (c.in-Err.ensures.users told fruitless)
