-- One turn of the machine: the program is asked, and its question is answered or put back.
use Rattle.std.specs.Prelude.{◌≡◌, ℕ, ◌+◌, ◌≤◌, List, [], length, Option, Some, None, IsSome}
use Rattle.std.specs.Bool.{⊤}
use Rattle.gs_types.specs.History.{History, worker_in}
use Rattle.gs_queue.specs.Queue.{tasks_of}
use Rattle.gs_talk.specs.declared.question.Question.{Question}
use Rattle.gs_talk.specs.declared.question.Answer.{Answer}
use Rattle.gs_talk.specs.declared.question.Answer.TheVariants as answer
use Rattle.gs_talk.specs.Talk.{Dialogue}
use Rattle.gs_main.specs.Talking.{Talking, Asked, Wanted, Awaits}
use Rattle.gs_main.specs.Shown.{talking}
use Rattle.gs_looks.specs.declared.look.Look.{Look}
use Rattle.gs_history.specs.Setup.{Setup, count_at}
use Rattle.gs_tables.specs.Asked.{HasGone}
use Rattle.gs_tables.specs.Table.{mains_in, looked_in}
use Rattle.gs_works.specs.Works.{Works, Lists}
use Rattle.gs_works.specs.Losing.{Before}
use Rattle.gs_core.specs.Talker.{IsLike, IsAwake}
use Rattle.gs_core.specs.Stages.{IsStageOf, ahead}
use Rattle.gs_core.specs.Core.{Bears, IsMadeFor, NotClosing, SameJobs, IsOnce}
use Rattle.gs_core.specs.declared.machine.Core.{Core}
use Rattle.gs_core.specs.declared.stage.Stage.{Stage}
use Rattle.gs_core.specs.declared.stage.Stage.TheVariants as stage
use Rattle.gs_core.specs.declared.stage.Step.{Step}
use Rattle.gs_core.specs.declared.stage.Loaded.{Loaded}
use Rattle.gs_core.specs.declared.stage.Loaded.TheVariants as loaded

-- ---- what was asked and answered

abbrev pub loaded_in : Stage → Option Loaded
loaded_in stage.Open = None
loaded_in (stage.Looking name) = None
loaded_in (stage.Looked name seen) = None
loaded_in stage.Loading = None
loaded_in (stage.Loaded l) = Some l
loaded_in (stage.Saving len) = None
loaded_in (stage.Saved len) = None
loaded_in stage.Settled = None

abbrev pub saved_in : Stage → Option ℕ
saved_in stage.Open = None
saved_in (stage.Looking name) = None
saved_in (stage.Looked name seen) = None
saved_in stage.Loading = None
saved_in (stage.Loaded l) = None
saved_in (stage.Saving len) = None
saved_in (stage.Saved len) = Some len
saved_in stage.Settled = None

-- a look is taken in by the tables
abbrev pub taken_in : Stage → Stage
taken_in stage.Open = stage.Open
taken_in (stage.Looking name) = stage.Looking name
taken_in (stage.Looked name seen) = stage.Open
taken_in stage.Loading = stage.Loading
taken_in (stage.Loaded l) = stage.Loaded l
taken_in (stage.Saving len) = stage.Saving len
taken_in (stage.Saved len) = stage.Saved len
taken_in stage.Settled = stage.Settled

-- ---- the question

-- this is the question of the dialogue; with its content, unless it was put back to be saved
pub record IsDueQuestion (before : Option Question) (x : Question) (m : Talking) (d : Dialogue) :
    Type 0 where
  pub asked : Question
  pub like : IsLike x asked
  pub asks : Asked d asked m.state m.next
  pub same : NotClosing before → x ≡ asked

abbrev pub Asks : Core → Question → Dialogue → Type 0
Asks core x d = Asked d x (talking core.main).state (talking core.main).next

-- ---- a turn

-- the core stands for k questions, but for its own question; nothing is lost
pub record Turning (core : Core) (s : Setup) (k : ℕ) (h : History) : Type 0 where
  pub bears : Bears core.tables core.queue s k h
  pub made : IsMadeFor (talking core.main) core.queue s
  pub before : Before s h
  pub calm : core.lost ≡ None

-- the tables stand for one question more, which has this answer, and the queue doesn't yet
pub record Answering (core : Core) (s : Setup) (k : ℕ) (h : History) (next : Answer → Dialogue)
    (a : Answer) : Type 0 where
  pub gone : HasGone core.tables s k h next a
  pub works : Works core.queue s h
  pub lists : Lists core.queue s k h
  pub tasks : tasks_of core.queue ≡ count_at s k
  pub flown : (n : ℕ) → IsSome (worker_in h n) → n ≤ count_at s k
  pub made : IsMadeFor (talking core.main) core.queue s
  pub before : Before s h
  pub calm : core.lost ≡ None
  pub wanted : Wanted
  pub awaits : (talking core.main).next ≡ Awaits wanted next

-- after an answer nothing was looked at
abbrev pub looks_after : Option Step → List Look → List Look
looks_after None looks = []
looks_after (Some x) looks = looks

abbrev pub IsStageAfter : Option Step → Stage → Type 0
IsStageAfter None g = g ≡ stage.Open
IsStageAfter (Some x) g = IsStageOf x g

abbrev pub IsOnceStep : Option Step → Stage → Type 0
IsOnceStep None g = ⊤
IsOnceStep (Some x) g = IsOnce x g

-- what a turn changes, whatever the core stands for; g is where the last step stood
pub record IsTurn (g : Stage) (old new : Core) (x : Option Step) : Type 0 where
  pub jobs : SameJobs old new
  pub mains : length (mains_in new.tables) + ahead new.stage
      ≤ length (mains_in old.tables) + ahead g
  pub looks : looked_in new.tables ≡ looks_after x (looked_in old.tables)
  pub stage : IsStageAfter x new.stage
  pub asked : IsSome x → IsSome new.asked
  pub awake : IsAwake new.asked (talking new.main).next
  pub once : IsOnceStep x g
  pub calm : x ≡ None → new.lost ≡ old.lost

abbrev pub loaded_answer : Loaded → Answer
loaded_answer loaded.Absent = answer.Absent
loaded_answer loaded.TooLong = answer.TooLong
loaded_answer (loaded.Bytes bytes) = answer.Bytes bytes
