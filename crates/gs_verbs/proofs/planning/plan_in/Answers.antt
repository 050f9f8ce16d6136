use Rattle.gs_verbs.proofs.Plans.{plan_told, plan_ends}
use Rattle.gs_verbs.proofs.planning.plan_in.Goals as goal

pub returns-in-Ok-load-clause-told : goal.returns-in-Ok-load-clause-told
returns-in-Ok-load-clause-told g c = λ told.
    plan_told c.args.slots (g.D.Disk.state c.args.disk.now).folder
    (g.D.Disk.state c.read_text.new.disk).folder c.args.durations.now c.in-Ok.text
    c.in-Ok-load.store c.plan_of.result (c.in-Ok.ensures.same told) (c.in-Ok.ensures.told told)
    (c.in-Ok-load.ensures.found told) c.plan_of.ensures.plan

pub returns-in-Ok-load-clause-cause : goal.returns-in-Ok-load-clause-cause
returns-in-Ok-load-clause-cause g c =
    plan_ends (g.D.Disk.state c.args.disk.now).faults (g.D.Disk.state c.read_text.new.disk).faults
    (g.D.Disk.state c.load.new.disk).faults c.plan_of.result c.plan_of.ensures.ends
    c.in-Ok.ensures.cause.rise c.in-Ok-load.ensures.cause.rise
