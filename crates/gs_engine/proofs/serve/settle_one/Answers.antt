use Rattle.gs_site.specs.Site.{disk_of, link_of}
use Rattle.gs_engine.specs.Steps.{Needs}
use Rattle.gs_engine.proofs.Settling.{nothing_goes}
use Rattle.gs_engine.proofs.Users.{stay_here}
use Rattle.gs_engine.proofs.serve.settle_one.Goals as goal

pub returns-in-Settled-clause-goes : goal.returns-in-Settled-clause-goes
returns-in-Settled-clause-goes g c = λ told. nothing_goes c.args.core.now c.args.store.now
    (disk_of c.args.site.now) (link_of c.args.site.now) (Needs c.args.core.now c.args.step.now)

pub returns-in-Settled-clause-users : goal.returns-in-Settled-clause-users
returns-in-Settled-clause-users g c = λ told. stay_here (g.D.Disk.state (disk_of c.args.site.now))
