use Rattle.std.proofs.Common.{◌≡◌}
use Rattle.gs_broker.specs.Choice.{scan_workers}
use Rattle.gs_broker.specs.Broker.{takes_in, usable_in}
use Rattle.gs_broker.proofs.broker.Broker.pick.Given as goal

abbrev pub invariant-loop-w : goal.invariant-loop-w
invariant-loop-w g l = l.best ≡ scan_workers (g.C.CostLaw.cost l.p.law.value) (takes_in l.self) (usable_in l.self) l.ready l.w
