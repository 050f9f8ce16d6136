-- Laws of histories.
use Rattle.std.specs.Prelude.{◌≡◌, ℕ, ◌<◌, ◌≤◌, ◌∷◌, true, List, map, slice_get, Option, Some, None, IsSome}
use Rattle.gs_types.specs.declared.job.Job.{Job}
use Rattle.gs_types.specs.declared.note.Version.{Version}
use Rattle.gs_types.specs.declared.value.Value.{Value}
use Rattle.gs_types.specs.History.{History, started, outs_in, worker_in, busy}
use Rattle.gs_talk.specs.declared.question.Question.{Question}
use Rattle.gs_talk.specs.Seq.{Task, task_at, IsTask, EndsIn}
use Rattle.gs_talk.specs.Actions.{DependsOn}
use Rattle.gs_talk_laws.specs.Numbers.{at_number}
use Rattle.gs_talk_laws.specs.Fuels.{with_fuel}
use Rattle.gs_talk_laws.specs.Versions.{readings}
use Rattle.gs_history.specs.Setup.{Noting, Setup, world_at}
use Rattle.gs_history.specs.Notes.{note_of, is_form, note_at, IsNoted, NoMisfit}
use Rattle.gs_history.specs.Frontier.{IsDone, IsThere, IsWithin, IsFrontier, HasStopped}
use Rattle.gs_history.specs.Ready.{IsOpen}
use Rattle.gs_history.specs.Losses.{Loss, NoLoss, IsLoss}
use Rattle.gs_history.specs.Good.{Good, IsQuiet}

-- there is one loss at most
abbrev pub OneLoss : Type 0
OneLoss = (s : Setup) (h : History) (l m : Loss) → IsLoss s h l → IsLoss s h m → l ≡ m

-- where nothing was lost there is none
abbrev pub LossIsLoss : Type 0
LossIsLoss = (s : Setup) (h : History) (l : Loss) → NoLoss s h → IsLoss s h l → ⊥

-- a start loses nothing
abbrev pub StartsLoseNothing : Type 0
StartsLoseNothing = (s : Setup) (h : History) (n w : ℕ) (job : Job) → NoLoss s h
    → NoLoss s (started n w job ∷ h)

-- a worker never has more jobs in flight than slots
abbrev pub SlotsSuffice : Type 0
SlotsSuffice = (s : Setup) (h : History) (w : ℕ) → Good s h → busy h w ≤ s.slots w

-- the task was neither done nor in flight, and nothing was lost
pub record IsFirstStart (s : Setup) (h : History) (n : ℕ) : Type 0 where
  pub not_done : outs_in h n ≡ None
  pub not_flying : worker_in h n ≡ None
  pub losses : NoLoss s h

-- each start is of such a task
abbrev pub EachStartsOnce : Type 0
EachStartsOnce = (s : Setup) (h : History) (n w : ℕ) (job : Job) → Good s (started n w job ∷ h)
    → IsFirstStart s h n

-- what is in flight was called within the frontier, isn't done, and its inputs are there
abbrev pub FlyingIsOpen : Type 0
FlyingIsOpen = (s : Setup) (h : History) (n : ℕ) → Good s h → IsSome (worker_in h n)
    → (t : Task) × IsOpen s h n t

-- ---- what is done, and how the run ends

-- each of the first k questions' tasks that has a note is of its form
abbrev pub NotesFit : Setup → (k : ℕ) → Type 0
NotesFit s k = (n : ℕ) (t : Task) (x : Noting) → task_at (world_at s k).tasks n ≡ Some t
    → note_at s.notes n ≡ Some x → is_form x t.op t.params ≡ true

-- where no question so far called a task of another form than its note, the notes fit
abbrev pub NotesFitUnlessMisfit : Type 0
NotesFitUnlessMisfit = (s : Setup) (k : ℕ) → ((j : ℕ) → j < k → NoMisfit s j) → NotesFit s k

-- what is done gave what it gives in the sequential run
abbrev pub DoneIsTrue : Type 0
DoneIsTrue = (s : Setup) (k : ℕ) (h : History) (n : ℕ) (t : Task) (outs : List Value) → Good s h
    → NotesFit s k → task_at (world_at s k).tasks n ≡ Some t → outs_in h n ≡ Some outs
    → t.outs ≡ Some outs

-- where the program's last question comes and each task is done, the sequential run ends in it
abbrev pub StoppedIsEnded : Type 0
StoppedIsEnded = (s : Setup) (k : ℕ) (h : History) (q : Question) → Good s h → NotesFit s k
    → HasStopped s h k q → EndsIn s.run k q

-- a note of a task that the run has at some fuel, of what it gave, is right at each fuel
abbrev pub NotesOfAnyFuel : Type 0
NotesOfAnyFuel = (s : Setup) (x : Noting) (fuel : ℕ) (t : Task) (outs : List Value)
    → IsTask (with_fuel s.run fuel) x.n t → t.outs ≡ Some outs
    → map (λ o. o.v) x.outs ≡ map note_of outs → IsNoted s x x.n outs

-- ---- what a task reads

-- the tasks that give the versions are done
abbrev pub AreThere : History → List (Option Version) → Type 0
AreThere h reads = (i : ℕ) (v : Version) → slice_get reads i ≡ Some (Some v) → IsThere h v

-- the tasks that task n truly depends on are done exactly where the versions that it reads are there
pub record DependsByVersions (s : Setup) (h : History) (n : ℕ) (reads : List (Option Version)) :
    Type 0 where
  pub there : ((m : ℕ) → DependsOn s.run n m → IsDone h m) → AreThere h reads
  pub done : AreThere h reads → (m : ℕ) → DependsOn s.run n m → IsDone h m

abbrev pub InputsAreVersions : Type 0
InputsAreVersions = (s : Setup) (h : History) (k n : ℕ) (reads : List (Option Version))
    → at_number (readings s.run k) n ≡ Some reads → DependsByVersions s h n reads

-- ---- something is always due

-- the window has room, and each worker that takes something has a slot
pub record CanGoOn (s : Setup) : Type 0 where
  pub window : 0 < s.window
  pub slots : (w op : ℕ) → s.takes w op ≡ true → 0 < s.slots w

-- at the frontier, with no job in flight, nothing to start and nothing lost, the program has asked
-- its last question and each task is done
abbrev pub NoDeadlock : Type 0
NoDeadlock = (s : Setup) (k : ℕ) (h : History) → CanGoOn s → Good s h → IsWithin s h k
    → IsFrontier s h k → IsQuiet s h → NoLoss s h → ((n : ℕ) → worker_in h n ≡ None)
    → (q : Question) × HasStopped s h k q
