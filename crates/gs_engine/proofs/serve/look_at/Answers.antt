use Rattle.std.proofs.Common.{◌≡◌, subst}
use Rattle.gs_disk.specs.Folder.{Same}
use Rattle.gs_disk.specs.Moments.{Passes}
use Rattle.gs_types.specs.declared.note.Version.TheVariants as versions
use Rattle.gs_looks.specs.Looked.{IsSeen}
use Rattle.gs_site.specs.Site.{disk_of, link_of}
use Rattle.gs_core.specs.declared.stage.Step.TheVariants as step
use Rattle.gs_engine.specs.Steps.{Needs, whatever}
use Rattle.gs_engine.specs.Reading.{held}
use Rattle.gs_engine.proofs.Settling.{look_goes, halts_same, found_lacks}
use Rattle.gs_engine.proofs.Users.{stay_same}
use Rattle.gs_engine.proofs.serve.look_at.Goals as goal

pub returns-in-Ok-clause-goes : goal.returns-in-Ok-clause-goes
returns-in-Ok-clause-goes g c = λ told. look_goes c.args.core.now c.looked.new.self c.args.store.now
    (disk_of c.args.site.now) c.look.new.disk (link_of c.args.site.now) c.args.name.now c.in-Ok.seen
    c.look.ensures.own c.requires.due
    (subst (λ d. IsSeen (held (g.D.Disk.state d).folder (versions.Original c.args.name.now))
    c.in-Ok.seen) c.disk.ensures.value (c.in-Ok.ensures.seen told))
    c.looked.ensures.tables c.looked.ensures.stage c.looked.ensures.stands
    (subst (λ d. (g.D.Disk.state c.look.new.disk).folder ≡ (g.D.Disk.state d).folder)
    c.disk.ensures.value (c.look.ensures.same told))
    (subst (λ d. Passes Same (g.D.Disk.state d) (g.D.Disk.state c.look.new.disk))
    c.disk.ensures.value (c.look.ensures.images told))

pub returns-in-Err-clause-goes : goal.returns-in-Err-clause-goes
returns-in-Err-clause-goes g c = λ told. halts_same c.args.core.now c.args.store.now
    (disk_of c.args.site.now) c.look.new.disk (link_of c.args.site.now)
    (subst (λ d. Passes Same (g.D.Disk.state d) (g.D.Disk.state c.look.new.disk))
    c.disk.ensures.value (c.look.ensures.images told))
    (Needs c.args.core.now (step.Look c.args.name.now)) whatever c.in-Err.halt
    (λ cs k h j p. c.in-Err.ensures.outside)

pub returns-in-Err-clause-refused : goal.returns-in-Err-clause-refused
returns-in-Err-clause-refused g c = λ told.
    found_lacks (g.D.Disk.state c.look.new.disk).folder c.in-Err.halt c.in-Err.ensures.outside

pub returns-in-Ok-clause-users : goal.returns-in-Ok-clause-users
returns-in-Ok-clause-users g c = λ told. stay_same
    (g.D.Disk.state (disk_of c.args.site.now)) (g.D.Disk.state c.look.new.disk)
    (subst (λ d. Passes Same (g.D.Disk.state d) (g.D.Disk.state c.look.new.disk))
    c.disk.ensures.value (c.look.ensures.images told))

pub returns-in-Err-clause-users : goal.returns-in-Err-clause-users
returns-in-Err-clause-users g c = λ told. stay_same
    (g.D.Disk.state (disk_of c.args.site.now)) (g.D.Disk.state c.look.new.disk)
    (subst (λ d. Passes Same (g.D.Disk.state d) (g.D.Disk.state c.look.new.disk))
    c.disk.ensures.value (c.look.ensures.images told))
