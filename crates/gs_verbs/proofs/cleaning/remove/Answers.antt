use Rattle.gs_verbs.proofs.Cleans.{removed_ok, removed_err}
use Rattle.gs_verbs.proofs.cleaning.remove.Goals as goal

pub returns-in-Ok : goal.returns-in-Ok
returns-in-Ok g c = removed_ok g.D.Disk.tells (g.D.Disk.state c.args.disk.now)
    (g.D.Disk.state c.clean.new.disk) c.in-Ok.ensures.cleans

pub returns-in-Err : goal.returns-in-Err
returns-in-Err g c = removed_err g.D.Disk.tells (g.D.Disk.state c.args.disk.now)
    (g.D.Disk.state c.clean.new.disk) c.in-Err.e c.stop_of_disk.result c.stop_of_disk.ensures
    c.in-Err.ensures.cause c.in-Err.ensures.cleans
