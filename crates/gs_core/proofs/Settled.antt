-- A core that waits for a job to end.
use Rattle.std.proofs.Common.{◌≡◌, ℕ, true, false, refl, subst, Option, Some, None, IsSome, is_some}
use Rattle.gs_types.specs.History.{History}
use Rattle.gs_talk.specs.declared.question.Question.{Question}
use Rattle.gs_history.specs.Setup.{Setup}
use Rattle.gs_history.specs.Notes.{NoMisfit}
use Rattle.gs_history.specs.Losses.{TaskLost, WorkersLost, NoLoss}
use Rattle.gs_history.specs.Frontier.{IsFrontier}
use Rattle.gs_history.proofs.Losing.{loss_is_loss}
use Rattle.gs_core.specs.GivenUp.{IsLost}
use Rattle.gs_core.specs.Core.{NotClosing, RestsAt, AtRest}
use Rattle.gs_core.specs.declared.losing.Lost.{Lost}
use Rattle.gs_core.specs.declared.losing.Lost.TheVariants as lost
use Rattle.gs_core.specs.declared.stage.Stage.{Stage}
use Rattle.gs_core.specs.declared.stage.Stage.TheVariants as stage

pub is_nothing : {A : Type 0} (o : Option A) → is_some o ≡ false → o ≡ None
is_nothing None e = refl
is_nothing (Some x) e = absurd cc

-- what is known where nothing is lost
pub settled_rest : (l : Option Lost) (g : Stage) (asked : Option Question) (s : Setup) (k : ℕ) (h : History) → l ≡ None → g ≡ stage.Settled → AtRest l g asked s k h → NoLoss s h × NotClosing asked × IsSome asked × IsFrontier s h k
settled_rest (Some l) g asked s k h none is rest = absurd cc
settled_rest None g asked s k h none is rest = subst (λ (x : Stage). RestsAt x asked s k h) is rest

is_not_lost : (l : Lost) (s : Setup) (k : ℕ) (h : History) → NoLoss s h → NoMisfit s k → IsLost l s k h → ⊥
is_not_lost (lost.Task n) s k h losses fit is = loss_is_loss s h (TaskLost n) losses is.0
is_not_lost (lost.Workers n) s k h losses fit is = loss_is_loss s h (WorkersLost n) losses is.0
is_not_lost (lost.Misfit index) s k h losses fit is = fit index is

-- something is lost, or a note isn't of its task
pub some_lost : (l : Option Lost) (g : Stage) (asked : Option Question) (s : Setup) (k : ℕ) (h : History) → is_some l ≡ true → NoLoss s h → NoMisfit s k → AtRest l g asked s k h → ⊥
some_lost None g asked s k h some losses fit rest = absurd cc
some_lost (Some l) g asked s k h some losses fit rest = is_not_lost l s k h losses fit rest.1
