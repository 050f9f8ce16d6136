use Rattle.std.proofs.Common.{◌≡◌, drop}
use Rattle.gs_broker.specs.Workers.{takes_at}
use Rattle.gs_broker.specs.Choice.{scan_tasks}
use Rattle.gs_broker.proofs.choice.scan_tasks.Given as goal

abbrev pub invariant-loop-r : goal.invariant-loop-r
invariant-loop-r g l = scan_tasks (g.C.CostLaw.cost l.p.law.value) (takes_at l.workers l.w) l.w (drop l.r-index l.ready) l.best ≡ scan_tasks (g.C.CostLaw.cost l.p.law.value) (takes_at l.workers l.w) l.w l.ready l.fn.best
