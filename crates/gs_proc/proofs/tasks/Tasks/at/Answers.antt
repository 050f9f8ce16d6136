use Rattle.std.proofs.Common.{ap}
use Rattle.gs_proc.specs.Tasks.{Crew}
use Rattle.gs_proc.proofs.TaskLists.{only_there, item_seen}
use Rattle.gs_proc.proofs.tasks.Tasks.at.Goals as goal

pub returns-clause-only : goal.returns-clause-only
returns-clause-only g c =
    let seen = ap (λ (w : Crew _). w.list) c.self.view_is in
    only_there _ _ c.args.place c.index.result.now seen c.self.invariant (item_seen _ _ c.args.place c.index.result.now seen c.requires c.index.ensures)
