use Rattle.std.proofs.Common.{subst, sym}
use Rattle.gs_types.specs.declared.note.Version.TheVariants as versions
use Rattle.gs_store.specs.Told.{PutsVersion}
use Rattle.gs_core.specs.declared.stage.Step.TheVariants as step
use Rattle.gs_site.specs.Site.{disk_of, link_of}
use Rattle.gs_finish.specs.Finishing.{IsNotLost}
use Rattle.gs_engine.specs.Steps.{Needs, whatever}
use Rattle.gs_engine.proofs.Settling.{kept, save_goes, save_halts, outside_found, found_lacks}
use Rattle.gs_engine.specs.Users.{UsersStay}
use Rattle.gs_engine.proofs.serve.save_at.Goals as goal

pub returns-in-Ok-clause-goes : goal.returns-in-Ok-clause-goes
returns-in-Ok-clause-goes g c = λ told. save_goes c.args.core.now c.saved.new.self c.args.store.now
    c.save.new.store (disk_of c.args.site.now) c.save.new.disk (link_of c.args.site.now) c.args.k
    c.args.bytes.now c.save.ensures.same c.requires.due c.ranges.k.fits
    (g.met.D.Disk.reads_an_image told c.save.new.disk)
    (subst (λ d. PutsVersion c.args.store.now (versions.Main c.args.k) c.args.bytes.now
    (g.D.Disk.state d) (g.D.Disk.state c.save.new.disk) kept) c.disk.ensures.value
    (c.in-Ok.ensures.puts told)) c.saved.ensures.tables c.saved.ensures.stage c.saved.ensures.stands

pub returns-in-Err-clause-goes : goal.returns-in-Err-clause-goes
returns-in-Err-clause-goes g c = λ told. save_halts c.args.core.now c.args.store.now
    c.save.new.store (disk_of c.args.site.now) c.save.new.disk (link_of c.args.site.now) c.args.k
    c.args.bytes.now c.save.result (g.met.D.Disk.reads_an_image told c.save.new.disk)
    (subst (λ d. PutsVersion c.args.store.now (versions.Main c.args.k) c.args.bytes.now
    (g.D.Disk.state d) (g.D.Disk.state c.save.new.disk) c.save.result) c.disk.ensures.value
    (c.save.ensures.puts told)) (Needs c.args.core.now (step.Save c.args.k c.args.bytes.now))
    whatever c.from.result
    (subst IsNotLost (sym c.from.ensures)
    (outside_found c.in-Err.failure c.in-Err.ensures.fails.outside))

pub returns-in-Err-clause-refused : goal.returns-in-Err-clause-refused
returns-in-Err-clause-refused g c = λ told.
    found_lacks (g.D.Disk.state c.save.new.disk).folder c.from.result
    (subst IsNotLost (sym c.from.ensures)
    (outside_found c.in-Err.failure c.in-Err.ensures.fails.outside))

pub returns-in-Ok-clause-users : goal.returns-in-Ok-clause-users
returns-in-Ok-clause-users g c = λ told. subst (λ d. UsersStay (g.D.Disk.state d)
    (g.D.Disk.state c.save.new.disk)) c.disk.ensures.value (c.save.ensures.users told)

pub returns-in-Err-clause-users : goal.returns-in-Err-clause-users
returns-in-Err-clause-users g c = λ told. subst (λ d. UsersStay (g.D.Disk.state d)
    (g.D.Disk.state c.save.new.disk)) c.disk.ensures.value (c.save.ensures.users told)
