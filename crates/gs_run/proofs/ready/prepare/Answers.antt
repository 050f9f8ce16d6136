use Rattle.gs_disk.specs.Going.{same_then}
use Rattle.gs_run.proofs.ready.prepare.Goals as goal

pub returns-clause-images : goal.returns-clause-images
returns-clause-images g c = λ told.
    same_then (g.D.Disk.state c.args.disk.now) (g.D.Disk.state c.load_own.new.disk)
    (g.D.Disk.state c.go_on.new.disk)
    (same_then (g.D.Disk.state c.args.disk.now) (g.D.Disk.state c.read_sources.new.disk)
    (g.D.Disk.state c.load_own.new.disk) (c.in-Ok.ensures.images told)
    (c.in-Ok-load_own.ensures.images told)) (c.go_on.ensures.images told)
