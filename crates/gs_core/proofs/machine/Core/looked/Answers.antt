use Rattle.std.proofs.Common.{sym, subst}
use Rattle.gs_core.specs.Core.{AtRest}
use Rattle.gs_core.specs.declared.stage.Stage.{Stage}
use Rattle.gs_core.proofs.Resting.{rest_looked}
use Rattle.gs_core.proofs.machine.Core.looked.Goals as goal

pub returns-clause-stands : goal.returns-clause-stands
returns-clause-stands c = λ s k h stands answers.
    let self = c.args.self.now in
    let rest = rest_looked self.lost self.stage self.asked s k h c.args.seen c.requires stands.rest answers in
    record { bears = stands.bears; made = stands.made; talks = stands.talks; rest = subst (λ (i : Stage). AtRest self.lost i self.asked s k h) (sym c.seen_now.ensures) rest }
