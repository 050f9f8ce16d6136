-- What is given up: a task that has failed too often, or the workers of a ready task.
use Rattle.std.specs.Prelude.{◌≡◌, ℕ, ◌<◌, ◌≤◌, ◌⊎◌, true, [], ◌∷◌}
use Rattle.std.specs.Bool.{⊤}
use Rattle.gs_types.specs.declared.limits.TheConstants.{WORKER_FAILURES}
use Rattle.gs_types.specs.History.{LinkEvent, History, noted, started, refused, finished, failed, abandoned, task_failures, worker_failures}
use Rattle.gs_talk.specs.Seq.{Task}
use Rattle.gs_history.specs.Setup.{Setup}
use Rattle.gs_history.specs.Ready.{IsReady}

-- of task n: it has failed too often, or each worker that takes it has
pub data Loss : Type 0 where
  TaskLost : (n : ℕ) → Loss
  WorkersLost : (n : ℕ) → Loss

-- the task is ready, and each worker that takes it has failed too often
pub record IsStranded (s : Setup) (h : History) (n : ℕ) : Type 0 where
  pub task : Task
  pub ready : IsReady s h n task
  pub failed : (w : ℕ) → s.takes w task.op ≡ true → WORKER_FAILURES ≤ worker_failures h w

-- no task has failed too often
abbrev pub FewFailures : Setup → History → Type 0
FewFailures s h = (n : ℕ) → task_failures h n < s.tries

-- nothing is lost at this moment
pub record IsClear (s : Setup) (h : History) : Type 0 where
  pub tasks : FewFailures s h
  pub workers : (n : ℕ) → IsStranded s h n → ⊥

-- the loss at this moment: the least task, before the workers of the least task
abbrev pub LooksLost : Setup → History → Loss → Type 0
LooksLost s h (TaskLost n) =
    (s.tries ≤ task_failures h n) × ((m : ℕ) → m < n → task_failures h m < s.tries)
LooksLost s h (WorkersLost n) =
    FewFailures s h × IsStranded s h n × ((m : ℕ) → m < n → IsStranded s h m → ⊥)

-- what was so before an event of the call; what was recorded before isn't of it
abbrev pub since_noted : LinkEvent → Type 0 → (before : Type 0) → Type 0
since_noted (noted n outs) always before = always
since_noted (started n w job) always before = before
since_noted (refused n w) always before = before
since_noted (finished n outs) always before = before
since_noted (failed n) always before = before
since_noted abandoned always before = before

-- nothing was lost at any moment of the call so far
abbrev pub NoLoss : Setup → History → Type 0
NoLoss s [] = IsClear s []
NoLoss s (e ∷ h) = since_noted e ⊤ (NoLoss s h) × IsClear s (e ∷ h)

-- the loss of the first moment that has one
abbrev pub IsLoss : Setup → History → Loss → Type 0
IsLoss s [] l = LooksLost s [] l
IsLoss s (e ∷ h) l = since_noted e ⊥ (IsLoss s h l)
    ⊎ (since_noted e ⊤ (NoLoss s h) × LooksLost s (e ∷ h) l)
