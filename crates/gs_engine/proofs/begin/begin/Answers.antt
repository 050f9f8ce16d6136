use Rattle.std.proofs.Common.{◌≡◌, ◌≤◌, sym, subst, ◌∙◌}
use Rattle.gs_site.specs.Link.{IsIdle}
use Rattle.gs_site.specs.Site.{disk_of}
use Rattle.gs_main.specs.Shown.{talking}
use Rattle.gs_life.specs.Origin.{Origin}
use Rattle.gs_life.specs.Called.{StandsFor, Stood}
use Rattle.gs_life.specs.Stands.{IsRunning}
use Rattle.gs_engine.specs.Beginning.{parts_of, Enters}
use Rattle.gs_engine.proofs.BeginningJoined.{sane_begun, recorded_begun, begun}
use Rattle.gs_engine.proofs.BeginningWords.{done}
use Rattle.gs_engine.specs.Users.{UsersStay}
use Rattle.gs_engine.proofs.begin.begin.Goals as goal

pub returns-in-Err-clause-recorded : goal.returns-in-Err-clause-recorded
returns-in-Err-clause-recorded g c = recorded_begun g.K.Link.tells c.begin_store.new.store
    c.begin_run.new.self.link c.begin_run.new.self.mark
    (g.met.K.Link.one c.begin_run.new.self.link)
    (λ past told. c.begin_run.ensures.mark past
    (subst (λ l. g.K.Link.tells l past) c.begin_run.ensures.link told))

pub returns-in-Ok-clause-recorded : goal.returns-in-Ok-clause-recorded
returns-in-Ok-clause-recorded g c = recorded_begun g.K.Link.tells c.begin_store.new.store
    c.begin_run.new.self.link c.begin_run.new.self.mark
    (g.met.K.Link.one c.begin_run.new.self.link)
    (λ past told. c.begin_run.ensures.mark past
    (subst (λ l. g.K.Link.tells l past) c.begin_run.ensures.link told))

pub returns-in-Err-core_of-clause-recorded : goal.returns-in-Err-core_of-clause-recorded
returns-in-Err-core_of-clause-recorded g c = recorded_begun g.K.Link.tells c.begin_store.new.store
    c.begin_run.new.self.link c.begin_run.new.self.mark
    (g.met.K.Link.one c.begin_run.new.self.link)
    (λ past told. c.begin_run.ensures.mark past
    (subst (λ l. g.K.Link.tells l past) c.begin_run.ensures.link told))

pub returns-in-Ok-clause-sane : goal.returns-in-Ok-clause-sane
returns-in-Ok-clause-sane g c = sane_begun c.in-Ok.core c.args.main c.begin_store.new.store
    c.begin_store.new.disk c.begin_run.new.self.link c.in_default.ensures.running
    c.in_default.ensures.disk
    (subst (λ l. IsIdle (g.K.Link.jobs l)) (sym c.begin_run.ensures.link) c.requires.idle)
    c.in-Ok.ensures.jobs c.in-Ok.ensures.main.0 c.in-Ok.ensures.main.1 c.requires.free

pub returns-in-Ok-clause-cause : goal.returns-in-Ok-clause-cause
returns-in-Ok-clause-cause g c = record {
  rise = subst (λ d. (g.D.Disk.state d).faults ≤ (g.D.Disk.state c.begin_store.new.disk).faults)
      (c.disk.ensures.value ∙ c.begin_run.ensures.disk) c.begin_store.ensures.cause.rise;
  cause = λ e. absurd cc;
}

pub returns-in-Ok-clause-begun : goal.returns-in-Ok-clause-begun
returns-in-Ok-clause-begun g c = λ told call enters. begun c.in-Ok.core c.args.texts.now
    (talking c.args.main) c.args.broker c.args.window c.args.store.now c.begin_store.new.store
    (disk_of c.args.site.now) c.begin_store.new.disk c.begin_run.new.self.link
    (subst (λ l. IsIdle (g.K.Link.jobs l)) (sym c.begin_run.ensures.link) c.requires.idle)
    c.in-Ok.ensures.stage c.in_default.ensures.notes c.in-Ok.ensures.stands
    (subst (λ d. (o : Origin) → o.texts ≡ c.args.texts.now
    → StandsFor o c.args.store.now.entries (g.D.Disk.state d)
    → Stood o c.begin_store.new.store.entries
    (λ f. IsRunning o f c.begin_store.new.store.entries) (g.D.Disk.state d)
    (g.D.Disk.state c.begin_store.new.disk) done)
    (c.disk.ensures.value ∙ c.begin_run.ensures.disk) (c.in_default.ensures.stood told))
    call
    (subst (λ l. Enters g.D.Disk.state g.K.Link.tells (λ x. g.K.L.Law.meaning (g.K.Link.law x))
    (parts_of c.args.texts.now (talking c.args.main) c.args.broker c.args.window)
    c.args.store.now.entries (disk_of c.args.site.now) l call) (sym c.begin_run.ensures.link)
    enters)

pub returns-in-Err-clause-users : goal.returns-in-Err-clause-users
returns-in-Err-clause-users g c = λ told. subst (λ d. UsersStay (g.D.Disk.state d)
    (g.D.Disk.state c.begin_store.new.disk)) (c.disk.ensures.value ∙ c.begin_run.ensures.disk)
    (c.begin_store.ensures.users told)

pub returns-in-Ok-clause-users : goal.returns-in-Ok-clause-users
returns-in-Ok-clause-users g c = λ told. subst (λ d. UsersStay (g.D.Disk.state d)
    (g.D.Disk.state c.begin_store.new.disk)) (c.disk.ensures.value ∙ c.begin_run.ensures.disk)
    (c.begin_store.ensures.users told)

pub returns-in-Err-core_of-clause-users : goal.returns-in-Err-core_of-clause-users
returns-in-Err-core_of-clause-users g c = λ told. subst (λ d. UsersStay (g.D.Disk.state d)
    (g.D.Disk.state c.begin_store.new.disk)) (c.disk.ensures.value ∙ c.begin_run.ensures.disk)
    (c.begin_store.ensures.users told)
