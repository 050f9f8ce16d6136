use Rattle.std.proofs.Common.{◌∙◌, Err, ap, subst}
use Rattle.gs_types.specs.History.{started, refused}
use Rattle.gs_site.specs.Link.{TellsStart}
use Rattle.gs_site.specs.Site.{disk_of, link_of, mark_of}
use Rattle.gs_engine.specs.Starting.{HasStart}
use Rattle.gs_engine.specs.Steps.{whatever}
use Rattle.gs_engine.proofs.Launching.{goes_started, goes_refused, goes_unstarted, recorded_by}
use Rattle.gs_engine.proofs.start.begin_job.Goals as goal

pub returns-in-Ok-clause-recorded : goal.returns-in-Ok-clause-recorded
returns-in-Ok-clause-recorded g c = recorded_by g.K.Link.tells c.args.store.now.entries
    (link_of c.args.site.now) (link_of c.start.new.self) (mark_of c.args.site.now)
    (mark_of c.start.new.self) (started c.args.job.now.n c.args.job.now.worker c.args.job.now)
    c.start.ensures.mark (g.met.K.Link.one (link_of c.start.new.self))
    (λ h told. g.met.K.Link.all (link_of c.start.new.self) (link_of c.args.site.now) h told)
    c.in-Ok.ensures.told (λ n has. has) c.requires.recorded

pub returns-in-Ok-clause-goes : goal.returns-in-Ok-clause-goes
returns-in-Ok-clause-goes g c = λ told. goes_started c.args.core.now c.started.new.self
    c.args.store.now (disk_of c.args.site.now) (disk_of c.start.new.self)
    (link_of c.args.site.now) (link_of c.start.new.self) c.start.ensures.disk
    c.started.ensures.tables c.started.ensures.stage
    (ap g.K.L.Law.meaning c.start.ensures.law)
    c.args.job.now c.started.ensures.stands c.in-Ok.ensures.started.flies c.in-Ok.ensures.told

pub returns-in-Err-Failed-clause-recorded : goal.returns-in-Err-Failed-clause-recorded
returns-in-Err-Failed-clause-recorded g c = recorded_by g.K.Link.tells c.args.store.now.entries
    (link_of c.args.site.now) (link_of c.start.new.self) (mark_of c.args.site.now)
    (mark_of c.start.new.self) (refused c.args.job.now.n c.args.job.now.worker)
    c.start.ensures.mark (g.met.K.Link.one (link_of c.start.new.self))
    (λ h told. g.met.K.Link.all (link_of c.start.new.self) (link_of c.args.site.now) h told)
    (subst (λ r. TellsStart g.K.Link.tells (link_of c.args.site.now) (link_of c.start.new.self)
    c.args.job.now r) (c.in-Err-Failed.is ∙ ap Err c.in-Err-Failed.field-0-is) c.start.ensures.told)
    (λ n has. has) c.requires.recorded

pub returns-in-Err-Failed-clause-goes : goal.returns-in-Err-Failed-clause-goes
returns-in-Err-Failed-clause-goes g c = λ told. goes_refused c.args.core.now c.failed.new.self
    c.args.store.now (disk_of c.args.site.now) (disk_of c.start.new.self)
    (link_of c.args.site.now) (link_of c.start.new.self) c.start.ensures.disk
    (c.failed.ensures.tables ∙ c.started-in-Err-Failed.ensures.tables)
    (c.failed.ensures.stage ∙ c.started-in-Err-Failed.ensures.stage)
    (ap g.K.L.Law.meaning c.start.ensures.law)
    c.args.job.now c.started-in-Err-Failed.new.self c.started-in-Err-Failed.ensures.stage
    c.started-in-Err-Failed.ensures.stands c.failed.ensures.refused
    c.in-Err-Failed.ensures.started.stays
    (subst (λ r. TellsStart g.K.Link.tells (link_of c.args.site.now) (link_of c.start.new.self)
    c.args.job.now r) (c.in-Err-Failed.is ∙ ap Err c.in-Err-Failed.field-0-is) c.start.ensures.told)

pub returns-in-Err-NoMemory-clause-goes : goal.returns-in-Err-NoMemory-clause-goes
returns-in-Err-NoMemory-clause-goes g c = λ told. goes_unstarted c.args.core.now c.args.store.now
    (disk_of c.args.site.now) (disk_of c.start.new.self) (link_of c.args.site.now)
    (link_of c.start.new.self) c.start.ensures.disk
    (subst (λ r. TellsStart g.K.Link.tells (link_of c.args.site.now) (link_of c.start.new.self)
    c.args.job.now r) (c.in-Err-NoMemory.is ∙ ap Err c.in-Err-NoMemory.field-0-is) c.start.ensures.told)
    (HasStart c.args.job.now) whatever
