use Rattle.gs_verbs.proofs.Missing.{told_as}
use Rattle.gs_verbs.proofs.reporting.tell.Goals as goal

pub returns-in-Err-clause-refused : goal.returns-in-Err-clause-refused
returns-in-Err-clause-refused g c = λ told.
    told_as (g.D.Disk.state c.args.disk.now).folder c.args.store.now.entries c.in-Err.e
    c.why_unloaded.result (c.requires told).files c.why_unloaded.ensures (c.in-Err.ensures.refused told)
