-- Where nothing is under way.
use Rattle.std.proofs.Common.{◌≡◌, ℕ, refl, sym, ◌∙◌, subst, Option, Some, None}
use Rattle.gs_types.specs.History.{History}
use Rattle.gs_talk.specs.declared.question.Question.{Question}
use Rattle.gs_history.specs.Setup.{Setup}
use Rattle.gs_history.specs.Notes.{NoMisfit}
use Rattle.gs_history.specs.Losses.{NoLoss}
use Rattle.gs_history.specs.Frontier.{IsFrontier}
use Rattle.gs_history.specs.Laws.{CanGoOn}
use Rattle.gs_history.proofs.Deadlock.{no_deadlock}
use Rattle.gs_core.specs.Core.{AtRest, IsVerdict}
use Rattle.gs_core.specs.Laws.{IsIdle, IdleHasEnded}
use Rattle.gs_core.specs.declared.machine.Core.{Core}
use Rattle.gs_core.specs.declared.losing.Lost.{Lost}
use Rattle.gs_core.specs.declared.stage.Stage.{Stage}
use Rattle.gs_core.specs.declared.stage.Stage.TheVariants as stage
use Rattle.gs_core.specs.declared.verdict.Verdict.TheVariants as verdict
use Rattle.gs_core.proofs.Settled.{settled_rest, some_lost}

frontier_at : (l : Option Lost) (g : Stage) (asked : Option Question) (s : Setup) (k : ℕ) (h : History) → g ≡ stage.Settled → NoLoss s h → NoMisfit s k → AtRest l g asked s k h → IsFrontier s h k
frontier_at (Some l) g asked s k h is losses fit rest = absurd (some_lost (Some l) g asked s k h refl losses fit rest)
frontier_at None g asked s k h is losses fit rest = (settled_rest None g asked s k h refl is rest).3

goes_not_on : (core : Core) (s : Setup) (k : ℕ) (h : History) → CanGoOn s → IsIdle core s k h → IsVerdict s k h verdict.More → ⊥
goes_not_on core s k h can idle (fit, losses, none) =
    let is = idle.stands in
    let frontier = frontier_at core.lost core.stage core.asked s k h idle.settled losses fit is.rest in
    let jobs = λ (n : ℕ). sym (is.bears.works.jobs n) ∙ idle.jobs n in
    let ended = no_deadlock s k h can is.bears.tables.good is.bears.tables.within frontier (idle.starts fit) losses jobs in
    none ended.0 ended.1

pub idle_has_ended : IdleHasEnded
idle_has_ended core s k h v can idle is e = goes_not_on core s k h can idle (subst (IsVerdict s k h) e is)
