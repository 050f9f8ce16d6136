use Rattle.std.proofs.Common.{length, subst, sym}
use Rattle.gs_queue.specs.Fronts.{task_at, last_at, StandForAll}
use Rattle.gs_queue.specs.Views.{task_in}
use Rattle.gs_queue.proofs.Leading.{stand_for}
use Rattle.gs_queue.proofs.listed.Listed.fronts.Goals as goal

pub returns : goal.returns
unfolding task_in
returns c =
    let l = c.args.self.now in
    subst (StandForAll (task_at l.tasks.items)) (sym c.deref.ensures.value)
    (stand_for (length l.tasks.items) (task_at l.tasks.items) (last_at l.last.items) l.fronts.items l.first)
