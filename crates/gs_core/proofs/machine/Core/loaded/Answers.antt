use Rattle.gs_core.proofs.Resting.{rest_loaded}
use Rattle.gs_core.proofs.machine.Core.loaded.Goals as goal

pub returns-clause-stands : goal.returns-clause-stands
returns-clause-stands c = λ s k h v kept stands for is.
    let self = c.args.self.now in
    record { bears = stands.bears; made = stands.made; talks = stands.talks; rest = rest_loaded self.lost self.stage self.asked s k h v kept c.args.loaded c.requires stands.rest for is }
