use Rattle.std.proofs.Common.{◌≡◌, subst}
use Rattle.gs_disk.specs.Folder.{Same}
use Rattle.gs_disk.specs.Moments.{Passes}
use Rattle.gs_core.specs.Stages.{IsLoaded}
use Rattle.gs_core.specs.declared.stage.Step.TheVariants as step
use Rattle.gs_site.specs.Site.{disk_of, link_of}
use Rattle.gs_finish.specs.Halting.{Lacks}
use Rattle.gs_engine.specs.Reading.{held}
use Rattle.gs_engine.specs.Steps.{Needs, whatever}
use Rattle.gs_engine.proofs.Settling.{load_goes, load_found, halts_same, version_lacks}
use Rattle.gs_engine.proofs.Users.{stay_same}
use Rattle.gs_engine.proofs.serve.load_at.Goals as goal

pub returns-in-Ok-clause-goes : goal.returns-in-Ok-clause-goes
returns-in-Ok-clause-goes g c = λ told. load_goes c.args.core.now c.loaded.new.self c.args.store.now
    (disk_of c.args.site.now) c.load.new.disk (link_of c.args.site.now) c.args.version.now
    c.args.kept c.in-Ok.loaded c.know_name.ensures
    (subst (λ d. IsLoaded (held (g.D.Disk.state d).folder c.args.version.now) c.in-Ok.loaded)
    c.disk.ensures.value (c.in-Ok.ensures.loaded told))
    c.loaded.ensures.tables c.loaded.ensures.stage c.loaded.ensures.stands
    (subst (λ d. (g.D.Disk.state c.load.new.disk).folder ≡ (g.D.Disk.state d).folder)
    c.disk.ensures.value (c.load.ensures.same told))
    (subst (λ d. Passes Same (g.D.Disk.state d) (g.D.Disk.state c.load.new.disk))
    c.disk.ensures.value (c.load.ensures.images told))

pub returns-in-Err-clause-goes : goal.returns-in-Err-clause-goes
returns-in-Err-clause-goes g c = λ told. halts_same c.args.core.now c.args.store.now
    (disk_of c.args.site.now) c.load.new.disk (link_of c.args.site.now)
    (subst (λ d. Passes Same (g.D.Disk.state d) (g.D.Disk.state c.load.new.disk))
    c.disk.ensures.value (c.load.ensures.images told))
    (Needs c.args.core.now (step.Load c.args.version.now c.args.kept)) whatever c.in-Err.halt
    (load_found c.args.core.now c.args.store.now (disk_of c.args.site.now)
    (link_of c.args.site.now) c.args.version.now c.args.kept c.in-Err.halt c.know_name.ensures
    (subst (λ d. Lacks (g.D.Disk.state d).folder c.args.version.now c.args.kept c.in-Err.halt)
    c.disk.ensures.value (c.in-Err.ensures.refused told)))

pub returns-in-Err-clause-refused : goal.returns-in-Err-clause-refused
returns-in-Err-clause-refused g c = λ told.
    version_lacks (g.D.Disk.state c.disk.result.now).folder (g.D.Disk.state c.load.new.disk).folder
    c.args.version.now c.args.kept c.in-Err.halt (c.load.ensures.same told)
    (c.in-Err.ensures.refused told)

pub returns-in-Ok-clause-users : goal.returns-in-Ok-clause-users
returns-in-Ok-clause-users g c = λ told. stay_same
    (g.D.Disk.state (disk_of c.args.site.now)) (g.D.Disk.state c.load.new.disk)
    (subst (λ d. Passes Same (g.D.Disk.state d) (g.D.Disk.state c.load.new.disk))
    c.disk.ensures.value (c.load.ensures.images told))

pub returns-in-Err-clause-users : goal.returns-in-Err-clause-users
returns-in-Err-clause-users g c = λ told. stay_same
    (g.D.Disk.state (disk_of c.args.site.now)) (g.D.Disk.state c.load.new.disk)
    (subst (λ d. Passes Same (g.D.Disk.state d) (g.D.Disk.state c.load.new.disk))
    c.disk.ensures.value (c.load.ensures.images told))
