use Rattle.gs_store.proofs.Loaded.{disk_same}
use Rattle.gs_store.proofs.tests.add_checked.Goals as goal

pub add_standing-requires-clause-disk_of_store : goal.add_standing-requires-clause-disk_of_store
add_standing-requires-clause-disk_of_store g c = λ told.
    disk_same c.args.store.now (g.D.Disk.state c.args.disk.now)
    (g.D.Disk.state c.check_files.new.disk) (c.check_files.ensures.images told)
    (c.requires.disk_of_store told)
