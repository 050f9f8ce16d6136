use Rattle.std.proofs.Common.{◌∙◌}
use Rattle.gs_main.specs.Shown.{talking}
use Rattle.gs_works.specs.Works.{FinishesTask}
use Rattle.gs_core.proofs.Carrying.{made_same}
use Rattle.gs_core.proofs.Finishes.{bears_finished, rest_finished}
use Rattle.gs_core.proofs.machine.Core.finished.Goals as goal

pub returns-clause-stands : goal.returns-clause-stands
returns-clause-stands c = λ s k h values settled is fits gave.
    let self = c.args.self.now in
    let old = self.queue in
    let mid = c.finished-2.new.self in
    let new = c.list_freed.new.queue in
    let n = c.args.n in
    let q = c.finished-2.ensures in
    let freed = c.list_freed.ensures in
    let finishes : FinishesTask n old mid = record { ended = q.ended; failures = q.failures; lapses = q.lapses } in
    let le = is.bears.flown n fits.flies in
    let holds = c.finished.ensures.holds s k h values is.bears.tables fits le gave in
    record {
      bears = bears_finished self.tables c.finished.new.self old mid new s k h n values finishes q.listed freed.more freed.full is.made.small fits.flies holds is.bears;
      made = made_same (talking self.main) old new s (freed.more.run.workers.listed ∙ q.ended.workers.listed) is.made;
      talks = is.talks;
      rest = rest_finished self.lost self.stage c.reopened.new.stage self.asked s k h n values settled c.reopened.ensures is.rest;
    }
