use Rattle.std.proofs.Common.{sym, subst}
use Rattle.gs_life.specs.Called.{StandsFor}
use Rattle.gs_site.specs.Site.{disk_of, link_of}
use Rattle.gs_store.specs.State.{StoreState}
use Rattle.gs_run.specs.Course.{Stood}
use Rattle.gs_run.specs.Halted.{CarriedBy, IsOfRun}
use Rattle.gs_run.specs.Ready.{store_in}
use Rattle.gs_run.specs.declared.ready.Ready.{Ready}
use Rattle.gs_run.proofs.Users.{finish_not}
use Rattle.gs_run.proofs.running.carry_out.Goals as goal

pub returns-in-Ended-clause-stood : goal.returns-in-Ended-clause-stood
returns-in-Ended-clause-stood g c = λ told o past stands run of law before.
    subst (λ (r : Ready). Stood {T = StoreState} o (store_in r).entries past
    (g.D.Disk.state (disk_of c.args.site.now)) (g.D.Disk.state (disk_of c.finish_store.new.site))
    (g.K.Link.tells (link_of c.finish_store.new.site))
    (CarriedBy {T = StoreState} o c.args.words.now.settings r c.finish_store.result)
    c.finish_store.result) (sym c.in-Ended.is)
    (c.finish_store.ensures.stood told o past
    (subst (λ (r : Ready). StandsFor o (store_in r).entries
    (g.D.Disk.state (disk_of c.args.site.now))) c.in-Ended.is stands) before)

pub returns-in-Going-clause-stood : goal.returns-in-Going-clause-stood
returns-in-Going-clause-stood g c = λ told o past stands run of law before.
    subst (λ (r : Ready). Stood {T = StoreState} o (store_in r).entries past
    (g.D.Disk.state (disk_of c.args.site.now)) (g.D.Disk.state (disk_of c.run_plan.new.site))
    (g.K.Link.tells (link_of c.run_plan.new.site))
    (CarriedBy {T = StoreState} o c.args.words.now.settings r c.run_plan.result)
    c.run_plan.result) (sym c.in-Going.is)
    (c.run_plan.ensures.ran told o past
    (subst (λ (r : Ready). StandsFor o (store_in r).entries
    (g.D.Disk.state (disk_of c.args.site.now))) c.in-Going.is stands) run
    (subst (λ (r : Ready). IsOfRun o r) c.in-Going.is of) law before)

pub returns-in-Ended-clause-users : goal.returns-in-Ended-clause-users
returns-in-Ended-clause-users g c = λ told is.
    absurd (finish_not c.finish_store.result c.finish_store.ensures.halts is)
