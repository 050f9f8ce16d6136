use Rattle.std.proofs.Common.{Bool, sym, subst, ◌∙◌, inl, inr}
use Rattle.std.proofs.lemmas.Bool.Decides.{eqb_tells}
use Rattle.gs_history.proofs.Deadlock.{none_unfinished}
use Rattle.gs_history.specs.Setup.{count_at}
use Rattle.gs_main.specs.Shown.{talking}
use Rattle.gs_core.specs.Core.{IsVerdict}
use Rattle.gs_core.specs.Verdicts.{stopped}
use Rattle.gs_core.proofs.Fitting.{holds_fits}
use Rattle.gs_core.proofs.Settled.{settled_rest}
use Rattle.gs_core.proofs.Endings.{all_done, verdict_open, verdict_done}
use Rattle.gs_core.proofs.machine.Core.verdict.Goals as goal

pub returns-in-None : goal.returns-in-None
returns-in-None c = λ s k h is.
    let self = c.args.self.now in
    let rest = settled_rest self.lost self.stage self.asked s k h c.in-None.is c.requires is.rest in
    let fit = holds_fits self.tables s k h is.bears.tables rest.3 in
    let count = c.unfinished.ensures s k h is.bears.tables in
    let P : Bool → Type 0 = λ b. IsVerdict s k h (stopped self.asked b) in
    subst (IsVerdict s k h) (sym c.stopped.ensures) (elim (eqb_tells c.unfinished.result 0) [
      | inl same ↦ subst P (sym same.0) (verdict_done s k h self.asked (talking self.main) fit rest.0 rest.1 rest.2 is.talks (all_done h (count_at s k) (sym count ∙ same.1)))
      | inr other ↦ subst P (sym other.0) (verdict_open s k h self.asked fit rest.0 (λ done. other.1 (count ∙ none_unfinished h (count_at s k) done)))
    ])
