-- What is given up.
use Rattle.std.specs.Prelude.{ℕ, Option, Some, None}
use Rattle.gs_broker.specs.declared.outcome.Loss.{Loss as Outcome}
use Rattle.gs_broker.specs.declared.outcome.Loss.TheVariants as outcome
use Rattle.gs_types.specs.History.{History}
use Rattle.gs_history.specs.Setup.{Setup}
use Rattle.gs_history.specs.Notes.{IsMisfit, NoMisfit}
use Rattle.gs_history.specs.Losses.{TaskLost, WorkersLost, IsLoss}
use Rattle.gs_core.specs.declared.losing.Lost.{Lost}
use Rattle.gs_core.specs.declared.losing.Lost.TheVariants as lost

abbrev pub workers_lost : Option ℕ → Option Lost
workers_lost None = None
workers_lost (Some n) = Some (lost.Workers n)

-- what was given up before, else the task, else its workers
abbrev pub next_loss : Option Lost → Outcome → (stranded : Option ℕ) → Option Lost
next_loss (Some l) loss stranded = Some l
next_loss None (outcome.Task n) stranded = Some (lost.Task n)
next_loss None outcome.Keep stranded = workers_lost stranded

-- it is the loss of the history; or the task that the next question calls has another note
abbrev pub IsLost : Lost → Setup → (k : ℕ) → History → Type 0
IsLost (lost.Task n) s k h = IsLoss s h (TaskLost n) × NoMisfit s k
IsLost (lost.Workers n) s k h = IsLoss s h (WorkersLost n) × NoMisfit s k
IsLost (lost.Misfit index) s k h = IsMisfit s k index
