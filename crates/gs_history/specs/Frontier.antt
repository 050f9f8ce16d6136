-- The frontier: how far the questions may be answered while tasks are unfinished.
use Rattle.std.specs.Prelude.{◌≡◌, ℕ, zero, suc, ◌<◌, ◌≤◌, ◌+◌, List, Option, Some, None, IsSome}
use Rattle.std.specs.Bool.{⊤}
use Rattle.gs_types.specs.declared.note.Version.{Version}
use Rattle.gs_types.specs.declared.note.Version.TheVariants.{Original, Out, Main}
use Rattle.gs_types.specs.declared.value.Value.{Value}
use Rattle.gs_types.specs.History.{History, outs_in}
use Rattle.gs_talk.specs.declared.question.Question.{Question}
use Rattle.gs_talk.specs.declared.question.Question.TheVariants.{Call, Use, OpenFile, CloseFile, Barrier, End, Fault, FuelOut}
use Rattle.gs_talk.specs.Talk.{State, Dialogue, Done, Ask, Stop}
use Rattle.gs_talk_laws.specs.Versions.{latest, writings}
use Rattle.gs_history.specs.Setup.{Setup, rest_at, count_at}

-- the task is done: recorded before, or finished
abbrev pub IsDone : History → (n : ℕ) → Type 0
IsDone h n = IsSome (outs_in h n)

-- the first n tasks, which are numbered from 1, are done
abbrev pub AllDone : History → (n : ℕ) → Type 0
AllDone h n = (m : ℕ) → m < n → IsDone h (suc m)

abbrev pub one_unless : Option (List Value) → ℕ
one_unless None = 1
one_unless (Some outs) = 0

-- how many of the first n tasks are not done
abbrev pub unfinished : History → (n : ℕ) → ℕ
unfinished h zero = 0
unfinished h (suc n) = unfinished h n + one_unless (outs_in h (suc n))

-- the task that gives the version is done
abbrev pub IsThere : History → Version → Type 0
IsThere h (Original name) = ⊤
IsThere h (Out n place) = IsDone h n
IsThere h (Main k) = ⊤

-- what comes after k questions may be answered: the tasks that it needs are done, and there is room
-- in the window for a call's task
abbrev pub MayAnswer : Setup → History → (k : ℕ) → Question → Type 0
MayAnswer s h k (Call op line args) = unfinished h (suc (count_at s k)) ≤ s.window
MayAnswer s h k (Use n place) = IsDone h n
MayAnswer s h k (OpenFile name mode line) = IsThere h (latest name (writings s.run k))
MayAnswer s h k (CloseFile name bytes) = ⊤
MayAnswer s h k Barrier = AllDone h (count_at s k)
MayAnswer s h k End = ⊥
MayAnswer s h k (Fault line kind) = ⊥
MayAnswer s h k FuelOut = ⊥

abbrev pub MayGoOn : Setup → History → (k : ℕ) → Dialogue → Type 0
MayGoOn s h k (Done n st) = ⊥
MayGoOn s h k (Ask q st next) = MayAnswer s h k q
MayGoOn s h k (Stop q st) = ⊥

-- the first k questions may be answered, one after the other
unfoldable pub IsWithin : Setup → History → (k : ℕ) → Type 0
IsWithin s h zero = ⊤
IsWithin s h (suc k) = IsWithin s h k × MayGoOn s h k (rest_at s k)

-- what comes after k questions may not be answered yet, or nothing comes
abbrev pub IsFrontier : Setup → History → (k : ℕ) → Type 0
IsFrontier s h k = MayGoOn s h k (rest_at s k) → ⊥

-- the program's last question comes next, and each task is done
pub record HasStopped (s : Setup) (h : History) (k : ℕ) (q : Question) : Type 0 where
  pub last : (st : State) × (rest_at s k ≡ Stop q st)
  pub done : AllDone h (count_at s k)
