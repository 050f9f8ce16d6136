use Rattle.gs_core.proofs.Carrying.{made_same}
use Rattle.gs_core.proofs.Starts.{rest_started, bears_started}
use Rattle.gs_main.specs.Shown.{talking}
use Rattle.gs_core.proofs.machine.Core.started.Goals as goal

pub returns-clause-stands : goal.returns-clause-stands
returns-clause-stands c = λ s k h j is fits.
    let self = c.args.self.now in
    let q = c.started.ensures in
    let n = c.args.n in
    let w = c.args.worker in
    record {
      bears = bears_started self.tables self.queue c.started.new.self s k h n w j q c.requires.may.numbered.1 fits is.bears;
      made = made_same (talking self.main) self.queue c.started.new.self s q.workers.listed is.made;
      talks = is.talks;
      rest = rest_started self.lost self.stage self.asked s k h n w j c.requires.settled is.rest;
    }
