use Rattle.std.proofs.Common.{ap}
use Rattle.gs_proc.specs.Tasks.{Crew}
use Rattle.gs_proc.proofs.TaskLists.{taken, apart_taken, item_seen}
use Rattle.gs_proc.proofs.tasks.Tasks.take.Goals as goal

pub invariant_of-self : goal.invariant_of-self
invariant_of-self g c =
    let seen = ap (λ (w : Crew _). w.list) c.self.view_is in
    apart_taken _ _ _ c.args.place c.remove.result seen c.self.invariant (item_seen _ _ c.args.place c.remove.result seen c.requires c.remove.ensures.value) c.remove.ensures.items

pub returns-clause-here : goal.returns-clause-here
returns-clause-here g c = item_seen _ _ c.args.place c.remove.result (ap (λ (w : Crew _). w.list) c.self.view_is) c.requires c.remove.ensures.value

pub returns-clause-calls : goal.returns-clause-calls
returns-clause-calls g c =
    let seen = ap (λ (w : Crew _). w.list) c.self.view_is in
    taken _ _ _ c.args.place c.remove.result seen c.self.invariant (item_seen _ _ c.args.place c.remove.result seen c.requires c.remove.ensures.value) c.remove.ensures.items
