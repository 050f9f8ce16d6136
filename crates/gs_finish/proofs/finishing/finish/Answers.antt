use Rattle.std.proofs.Common.{sym, ◌∙◌}
use Rattle.gs_disk.specs.Going.{always_started}
use Rattle.gs_life.specs.Stands.{Stands}
use Rattle.gs_life.proofs.Calls.{each_stands, each_closed, closed_for}
use Rattle.gs_finish.proofs.Bringing.{stage_closed}
use Rattle.gs_site.specs.Site.{disk_of}
use Rattle.gs_finish.proofs.finishing.finish.Goals as goal

pub returns-in-Gated-clause-stage : goal.returns-in-Gated-clause-stage
returns-in-Gated-clause-stage g c =
    stage_closed c.finish_gated.result c.args.store (sym c.stage.ensures ∙ c.in-Gated.is)
    c.finish_gated.ensures.store

pub returns-in-Closed-clause-stands : goal.returns-in-Closed-clause-stands
returns-in-Closed-clause-stands g c = λ told o for.
    let s = g.D.Disk.state (disk_of c.args.site.now) in
    always_started (Stands o) s (each_stands o c.args.store.entries s for)

pub returns-in-Closed-clause-closed : goal.returns-in-Closed-clause-closed
returns-in-Closed-clause-closed g c = λ told o for.
    let s = g.D.Disk.state (disk_of c.args.site.now) in
    let es = c.args.store.entries in
    each_closed o for.rules es s for.steady
    (closed_for o es s (sym c.stage.ensures ∙ c.in-Closed.is) for)
