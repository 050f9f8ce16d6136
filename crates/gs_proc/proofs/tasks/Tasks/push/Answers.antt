use Rattle.std.proofs.Common.{ap}
use Rattle.gs_proc.specs.Tasks.{Crew}
use Rattle.gs_proc.proofs.TaskLists.{apart_behind}
use Rattle.gs_proc.proofs.tasks.Tasks.push.Goals as goal

pub invariant_of-self : goal.invariant_of-self
invariant_of-self g c =
    apart_behind _ _ _ c.args.task (ap (λ (w : Crew _). w.list) c.self.view_is) c.self.invariant c.requires.free c.in-Ok.ensures.items
