-- What is lost, as far as it is known before and after a look at the queue.
use Rattle.std.specs.Prelude.{ℕ, [], ◌∷◌, Option, Some, None}
use Rattle.std.specs.Bool.{⊤}
use Rattle.gs_types.specs.History.{LinkEvent, History, noted, started, refused, finished, failed, abandoned}
use Rattle.gs_broker.specs.declared.outcome.Loss.{Loss as Outcome}
use Rattle.gs_broker.specs.declared.outcome.Loss.TheVariants.{Keep, Task}
use Rattle.gs_history.specs.Setup.{Setup}
use Rattle.gs_history.specs.Losses.{TaskLost, WorkersLost, FewFailures, since_noted, NoLoss, IsLoss}

-- nothing was lost before the last event
abbrev pub NoLossBefore : Setup → History → Type 0
NoLossBefore s [] = ⊤
NoLossBefore s (e ∷ h) = since_noted e ⊤ (NoLoss s h)

-- nothing was lost before the last event, and no task by it
pub record Before (s : Setup) (h : History) : Type 0 where
  pub losses : NoLossBefore s h
  pub tasks : FewFailures s h

-- what the least stranded task says where no task is lost: its workers are lost, or nothing is
abbrev pub IsWorkersLoss : Setup → History → Option ℕ → Type 0
IsWorkersLoss s h None = NoLoss s h
IsWorkersLoss s h (Some n) = IsLoss s h (WorkersLost n)

-- what a failure and the least stranded task say: the task is lost, or the workers, or nothing is
abbrev pub IsFailureLoss : Setup → History → Outcome → Option ℕ → Type 0
IsFailureLoss s h (Task n) stranded = IsLoss s h (TaskLost n)
IsFailureLoss s h Keep stranded = IsWorkersLoss s h stranded

-- the event is one of the call, and was not recorded before
abbrev pub IsOfCall : LinkEvent → Type 0
IsOfCall (noted n outs) = ⊥
IsOfCall (started n w job) = ⊤
IsOfCall (refused n w) = ⊤
IsOfCall (finished n outs) = ⊤
IsOfCall (failed n) = ⊤
IsOfCall abandoned = ⊤
