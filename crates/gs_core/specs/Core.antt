-- What a core stands for.
use Rattle.std.specs.Prelude.{◌≡◌, ◌≢◌, ℕ, suc, ◌<◌, ◌≤◌, ◌==◌, ◌⊎◌, List, [], ◌∷◌, ◌++◌, Option, Some, None, IsSome, if◌then◌else◌}
use Rattle.std.specs.Bool.{⊤}
use Rattle.gs_types.specs.History.{History, worker_in}
use Rattle.gs_broker.specs.Listed.{program_in}
use Rattle.gs_queue.specs.Queue.{tasks_of, job_of, workers_of}
use Rattle.gs_queue.specs.declared.queue.Queue.{Queue}
use Rattle.gs_talk.specs.declared.question.Question.{Question}
use Rattle.gs_talk.specs.declared.question.Question.TheVariants as q
use Rattle.gs_talk.specs.Seq.{Task}
use Rattle.gs_main.specs.Talking.{Talking}
use Rattle.gs_main.specs.Shown.{talking}
use Rattle.gs_looks.specs.declared.look.Look.{Look}
use Rattle.gs_looks.specs.Looked.{IsSeen, looked}
use Rattle.gs_history.specs.Setup.{Setup, world_at, rest_at, count_at}
use Rattle.gs_history.specs.Notes.{NoMisfit, IsMisfit}
use Rattle.gs_history.specs.Frontier.{MayGoOn, IsFrontier, HasStopped}
use Rattle.gs_history.specs.Good.{IsDue, IsQuiet}
use Rattle.gs_history.specs.Losses.{TaskLost, WorkersLost, NoLoss, IsLoss}
use Rattle.gs_tables.specs.Holds.{Holds}
use Rattle.gs_tables.specs.Starts.{Starts, AreSmall}
use Rattle.gs_tables.specs.Table.{looked_in}
use Rattle.gs_tables.specs.declared.tables.Tables.{Tables}
use Rattle.gs_works.specs.Works.{Works, Lists}
use Rattle.gs_works.specs.Losing.{Before}
use Rattle.gs_core.specs.GivenUp.{IsLost}
use Rattle.gs_core.specs.Talker.{TalksAs}
use Rattle.gs_core.specs.Stages.{ByAsked, LookBy, LoadBy, SaveBy, LoadedOf, LengthOf}
use Rattle.gs_core.specs.declared.losing.Lost.{Lost}
use Rattle.gs_core.specs.declared.machine.Core.{Core}
use Rattle.gs_core.specs.declared.machine.Start.{Start}
use Rattle.gs_core.specs.declared.verdict.Verdict.{Verdict}
use Rattle.gs_core.specs.declared.verdict.Verdict.TheVariants as verdict
use Rattle.gs_core.specs.declared.stage.Stage.{Stage}
use Rattle.gs_core.specs.declared.stage.Stage.TheVariants as stage
use Rattle.gs_core.specs.declared.stage.Step.{Step}
use Rattle.gs_core.specs.declared.stage.Step.TheVariants as step

-- ---- the parts

-- the tables and the queue stand for the first k questions and the history
pub record Bears (t : Tables) (queue : Queue) (s : Setup) (k : ℕ) (h : History) : Type 0 where
  pub tables : Holds t s k h
  pub works : Works queue s h
  pub lists : Lists queue s k h
  pub tasks : tasks_of queue ≡ count_at s k
  -- what is in flight was called
  pub flown : (n : ℕ) → IsSome (worker_in h n) → n ≤ count_at s k

-- the program is that of the setup, and so are the workers; and costs tell its tasks apart
pub record IsMadeFor (m : Talking) (queue : Queue) (s : Setup) : Type 0 where
  pub texts : m.given ≡ s.run.texts
  pub operations : m.interface.ops ≡ s.run.texts.ops
  pub programs : (w : ℕ) → program_in (workers_of queue) w ≡ s.program w
  pub small : AreSmall s

-- ---- where it stands

-- a question that was put back has its content, as only the end of a write has none
abbrev pub NotClosing : Option Question → Type 0
NotClosing None = ⊤
NotClosing (Some (q.Call op line args)) = ⊤
NotClosing (Some (q.Use n place)) = ⊤
NotClosing (Some (q.OpenFile name mode line)) = ⊤
NotClosing (Some (q.CloseFile name bytes)) = ⊥
NotClosing (Some q.Barrier) = ⊤
NotClosing (Some q.End) = ⊤
NotClosing (Some (q.Fault line kind)) = ⊤
NotClosing (Some q.FuelOut) = ⊤

-- what is known by the step that was asked or answered, where nothing is lost
abbrev pub RestsAt : Stage → Option Question → Setup → (k : ℕ) → History → Type 0
RestsAt stage.Open asked s k h = Before s h × NotClosing asked
RestsAt (stage.Looking name) asked s k h = Before s h × NotClosing asked
RestsAt (stage.Looked name seen) asked s k h =
    Before s h × NotClosing asked × IsSeen (s.run.files name) seen
RestsAt stage.Loading asked s k h = Before s h × NotClosing asked × MayGoOn s h k (rest_at s k)
RestsAt (stage.Loaded l) asked s k h =
    Before s h × NotClosing asked × MayGoOn s h k (rest_at s k)
    × LoadedOf (world_at s k).files l (rest_at s k)
RestsAt (stage.Saving len) asked s k h = Before s h × LengthOf len (rest_at s k)
RestsAt (stage.Saved len) asked s k h = Before s h × LengthOf len (rest_at s k)
RestsAt stage.Settled asked s k h =
    NoLoss s h × NotClosing asked × IsSome asked × IsFrontier s h k

-- no step was asked
abbrev pub IsStill : Stage → Type 0
IsStill stage.Open = ⊤
IsStill (stage.Looking name) = ⊥
IsStill (stage.Looked name seen) = ⊥
IsStill stage.Loading = ⊥
IsStill (stage.Loaded l) = ⊥
IsStill (stage.Saving len) = ⊥
IsStill (stage.Saved len) = ⊥
IsStill stage.Settled = ⊤

abbrev pub AtRest : Option Lost → Stage → Option Question → Setup → (k : ℕ) → History → Type 0
AtRest (Some l) g asked s k h = IsStill g × IsLost l s k h
AtRest None g asked s k h = RestsAt g asked s k h

-- the core stands for the first k questions of the sequential run, and for the history
pub record Stands (core : Core) (s : Setup) (k : ℕ) (h : History) : Type 0 where
  pub bears : Bears core.tables core.queue s k h
  pub made : IsMadeFor (talking core.main) core.queue s
  pub talks : TalksAs core.asked (talking core.main) (rest_at s k)
  pub rest : AtRest core.lost core.stage core.asked s k h

-- ---- what is needed next

-- the program and its question stay
pub record SameProgram (old new : Core) : Type 0 where
  pub main : new.main ≡ old.main
  pub asked : new.asked ≡ old.asked

-- the same jobs are in flight
abbrev pub SameJobs : (old new : Core) → Type 0
SameJobs old new = (n : ℕ) → job_of new.queue n ≡ job_of old.queue n

-- task n is in flight on this worker, or no longer
abbrev pub SetsJob : (n : ℕ) → Option ℕ → (old new : Core) → Type 0
SetsJob n w old new = (m : ℕ) → job_of new.queue m ≡ (if n == m then w else job_of old.queue m)

-- the program can't go on yet; or what it asks may be answered, and needs this
abbrev pub IsStep : List Look → Setup → (k : ℕ) → History → Step → Type 0
IsStep looks s k h (step.Look name) =
    MayGoOn s h k (rest_at s k) × ByAsked (LookBy s k looks name) (rest_at s k)
IsStep looks s k h (step.Load v kept) =
    MayGoOn s h k (rest_at s k) × ByAsked (LoadBy s k v kept) (rest_at s k)
IsStep looks s k h (step.Save n bytes) =
    MayGoOn s h k (rest_at s k) × ByAsked (SaveBy s k n bytes) (rest_at s k)
IsStep looks s k h step.Settled = NoLoss s h → NoMisfit s k → IsFrontier s h k

-- one more question was answered, and nothing is lost; or a step is due
abbrev pub Turned : Core → Setup → (k : ℕ) → History → Option Step → Type 0
Turned core s k h None = Stands core s (suc k) h × (core.lost ≡ None)
Turned core s k h (Some x) = Stands core s k h × IsStep (looked_in core.tables) s k h x

-- what was loaded isn't loaded again for the same question, nor is what was saved
abbrev pub IsLoadOnce : Stage → Type 0
IsLoadOnce stage.Open = ⊤
IsLoadOnce (stage.Looking name) = ⊤
IsLoadOnce (stage.Looked name seen) = ⊤
IsLoadOnce stage.Loading = ⊤
IsLoadOnce (stage.Loaded l) = ⊥
IsLoadOnce (stage.Saving len) = ⊤
IsLoadOnce (stage.Saved len) = ⊤
IsLoadOnce stage.Settled = ⊤

abbrev pub IsSaveOnce : Stage → Type 0
IsSaveOnce stage.Open = ⊤
IsSaveOnce (stage.Looking name) = ⊤
IsSaveOnce (stage.Looked name seen) = ⊤
IsSaveOnce stage.Loading = ⊤
IsSaveOnce (stage.Loaded l) = ⊤
IsSaveOnce (stage.Saving len) = ⊤
IsSaveOnce (stage.Saved len) = ⊥
IsSaveOnce stage.Settled = ⊤

abbrev pub IsOnce : Step → Stage → Type 0
IsOnce (step.Look name) g = ⊤
IsOnce (step.Load v kept) g = IsLoadOnce g
IsOnce (step.Save n bytes) g = IsSaveOnce g
IsOnce step.Settled g = ⊤

-- with what was looked at last
abbrev pub looks_with : Stage → List Look → List Look
looks_with stage.Open looks = looks
looks_with (stage.Looking name) looks = looks
looks_with (stage.Looked name seen) looks = looks ++ looked name seen ∷ []
looks_with stage.Loading looks = looks
looks_with (stage.Loaded l) looks = looks
looks_with (stage.Saving len) looks = looks
looks_with (stage.Saved len) looks = looks
looks_with stage.Settled looks = looks

-- what was looked at counts for one question
abbrev pub KeptLooks : (old new : Core) → (k m : ℕ) → Type 0
KeptLooks old new k m =
    ((m ≡ k) × (looked_in new.tables ≡ looks_with old.stage (looked_in old.tables)))
    ⊎ ((k < m) × (looked_in new.tables ≡ []))

-- the core has gone on as far as it may: to question m
pub record HasAdvanced (old new : Core) (s : Setup) (k : ℕ) (h : History) (x : Step) (m : ℕ) :
    Type 0 where
  pub later : k ≤ m
  pub stands : Stands new s m h
  pub due : IsStep (looked_in new.tables) s m h x
  pub before : x ≢ step.Settled → Before s h
  pub looks : KeptLooks old new k m
  pub once : m ≡ k → IsOnce x old.stage

abbrev pub Advances : (old new : Core) → Setup → (k : ℕ) → History → Step → Type 0
Advances old new s k h x = (m : ℕ) × HasAdvanced old new s k h x m

-- the start that is due, and what the task gets; or nothing can start, unless the next task has a
-- note of another form
abbrev pub IsDueStart : Setup → (k : ℕ) → History → Option Start → Type 0
IsDueStart s k h None = NoMisfit s k → IsQuiet s h
IsDueStart s k h (Some x) =
    (t : Task) × IsDue s h x.n x.worker t × Starts s k h t (Some (x.op, x.args))

-- ---- how it ends

abbrev pub IsVerdict : Setup → (k : ℕ) → History → Verdict → Type 0
IsVerdict s k h verdict.More = NoMisfit s k × NoLoss s h × ((x : Question) → HasStopped s h k x → ⊥)
IsVerdict s k h verdict.Ended = NoMisfit s k × NoLoss s h × HasStopped s h k q.End
IsVerdict s k h verdict.FuelOut = NoMisfit s k × NoLoss s h × HasStopped s h k q.FuelOut
IsVerdict s k h (verdict.Fault line kind) =
    NoMisfit s k × NoLoss s h × HasStopped s h k (q.Fault line kind)
IsVerdict s k h (verdict.TaskLost n) = IsLoss s h (TaskLost n) × NoMisfit s k
IsVerdict s k h (verdict.WorkersLost n) = IsLoss s h (WorkersLost n) × NoMisfit s k
IsVerdict s k h (verdict.Misfit index) = IsMisfit s k index
