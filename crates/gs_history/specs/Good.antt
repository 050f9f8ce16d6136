-- A history that is as it should be: each start is due, each task ends as in the sequential run, and
-- nothing could be started at a wait.
use Rattle.std.specs.Prelude.{◌≡◌, ℕ, List, [], ◌∷◌, Some, IsSome}
use Rattle.std.specs.Bool.{⊤}
use Rattle.gs_types.specs.declared.value.Value.{Value}
use Rattle.gs_types.specs.declared.job.Job.{Job}
use Rattle.gs_types.specs.History.{History, noted, started, refused, finished, failed, abandoned, worker_in}
use Rattle.gs_talk.specs.Seq.{Task, IsTask}
use Rattle.gs_history.specs.Setup.{Setup}
use Rattle.gs_history.specs.Notes.{AreNoted}
use Rattle.gs_history.specs.Ready.{IsReady, CanTake, IsLeast, IsJob}
use Rattle.gs_history.specs.Losses.{NoLoss}

-- task n is due on worker w: it is ready, the worker can take it, no other pair comes before, and
-- nothing was lost
pub record IsDue (s : Setup) (h : History) (n w : ℕ) (t : Task) : Type 0 where
  pub ready : IsReady s h n t
  pub can : CanTake s h t.op w
  pub least : IsLeast s h n t w
  pub losses : NoLoss s h

-- at a wait: unless something was lost, no ready task could be started
abbrev pub IsQuiet : Setup → History → Type 0
IsQuiet s h = NoLoss s h → (n w : ℕ) (t : Task) → IsReady s h n t → CanTake s h t.op w → ⊥

-- the jobs in flight were not given up
abbrev pub GoesOn : History → Type 0
GoesOn [] = ⊤
GoesOn (noted n outs ∷ h) = ⊤
GoesOn (started n w job ∷ h) = ⊤
GoesOn (refused n w ∷ h) = ⊤
GoesOn (finished n outs ∷ h) = ⊤
GoesOn (failed n ∷ h) = ⊤
GoesOn (abandoned ∷ h) = ⊥

-- a start that is due, of the task's job
pub record IsStart (s : Setup) (h : History) (n w : ℕ) (job : Job) : Type 0 where
  pub task : Task
  pub due : IsDue s h n w task
  pub job_of : IsJob s n w task job
  pub goes_on : GoesOn h

-- a start that is due, and that the link refused
pub record IsRefused (s : Setup) (h : History) (n w : ℕ) : Type 0 where
  pub task : Task
  pub due : IsDue s h n w task
  pub goes_on : GoesOn h

-- at a wait a task in flight ends with what the sequential run has
pub record IsFinish (s : Setup) (h : History) (n : ℕ) (outs : List Value) : Type 0 where
  pub task : Task
  pub called : IsTask s.run n task
  pub gave : task.outs ≡ Some outs
  pub flies : IsSome (worker_in h n)
  pub quiet : IsQuiet s h

-- at a wait a task in flight fails
pub record IsFailure (s : Setup) (h : History) (n : ℕ) : Type 0 where
  pub flies : IsSome (worker_in h n)
  pub quiet : IsQuiet s h

-- what was recorded before comes first; each event is as it should be after those before
abbrev pub Good : Setup → History → Type 0
Good s [] = AreNoted s s.notes []
Good s (noted n outs ∷ h) = AreNoted s s.notes (noted n outs ∷ h)
Good s (started n w job ∷ h) = Good s h × IsStart s h n w job
Good s (refused n w ∷ h) = Good s h × IsRefused s h n w
Good s (finished n outs ∷ h) = Good s h × IsFinish s h n outs
Good s (failed n ∷ h) = Good s h × IsFailure s h n
Good s (abandoned ∷ h) = Good s h × GoesOn h
