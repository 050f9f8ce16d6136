use Rattle.gs_verbs.proofs.Cleans.{ran_removed}
use Rattle.gs_verbs.proofs.cleaning.clean.Goals as goal

pub returns-in-Ok : goal.returns-in-Ok
returns-in-Ok g c = ran_removed g.D.Disk.tells (g.D.Disk.state c.args.disk.now)
    (g.D.Disk.state c.may_clean.new.disk) (g.D.Disk.state c.remove.new.disk) c.remove.result
    c.in-Ok.ensures.cause.rise c.in-Ok.ensures.gated c.in-Ok.ensures.same
    c.in-Ok.ensures.images c.remove.ensures
