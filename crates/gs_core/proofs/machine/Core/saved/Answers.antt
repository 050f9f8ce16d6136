use Rattle.std.proofs.Common.{sym, subst}
use Rattle.gs_core.specs.Core.{AtRest}
use Rattle.gs_core.specs.declared.stage.Stage.{Stage}
use Rattle.gs_core.proofs.Resting.{rest_saved}
use Rattle.gs_core.proofs.machine.Core.saved.Goals as goal

pub returns-clause-stands : goal.returns-clause-stands
returns-clause-stands c = λ s k h stands.
    let self = c.args.self.now in
    let rest = rest_saved self.lost self.stage self.asked s k h c.requires stands.rest in
    record { bears = stands.bears; made = stands.made; talks = stands.talks; rest = subst (λ (i : Stage). AtRest self.lost i self.asked s k h) (sym c.saved_now.ensures) rest }
