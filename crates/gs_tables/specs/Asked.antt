-- What comes of a question.
use Rattle.std.specs.Prelude.{◌≡◌, ℕ, suc, ◌≤◌, List, length, slice_get, Option, Some, None}
use Rattle.std.specs.Bool.{⊤}
use Rattle.gs_idl.specs.Interface.{params_at}
use Rattle.gs_types.specs.declared.limits.TheConstants.{FILE_LIMIT}
use Rattle.gs_types.specs.declared.note.Version.{Version}
use Rattle.gs_types.specs.declared.note.Version.TheVariants.{Original, Out, Main}
use Rattle.gs_types.specs.declared.note.Note.{Note}
use Rattle.gs_types.specs.declared.note.Note.TheVariants as note
use Rattle.gs_types.specs.declared.value.Value.{Value}
use Rattle.gs_types.specs.declared.value.Value.TheVariants as value
use Rattle.gs_types.specs.History.{History}
use Rattle.gs_talk.specs.declared.question.CallArg.{CallArg}
use Rattle.gs_talk.specs.declared.question.Question.{Question}
use Rattle.gs_talk.specs.declared.question.Question.TheVariants as q
use Rattle.gs_talk.specs.declared.question.Answer.{Answer}
use Rattle.gs_talk.specs.declared.question.Answer.TheVariants as answer
use Rattle.gs_talk.specs.Talk.{State, Dialogue, Ask}
use Rattle.gs_talk.specs.Seq.{Known, reply}
use Rattle.gs_talk_laws.specs.Versions.{latest, writings, read_by, version_value}
use Rattle.gs_looks.specs.Looked.{looks_in, seen_of}
use Rattle.gs_looks.specs.Judgement.{IsReadOriginal}
use Rattle.gs_history.specs.Setup.{Setup, world_at, rest_at}
use Rattle.gs_history.specs.Notes.{IsMisfit, NoMisfit}
use Rattle.gs_history.specs.Frontier.{MayAnswer}
use Rattle.gs_tables.specs.Holds.{Holds}
use Rattle.gs_tables.specs.declared.asking.Called.{Called}
use Rattle.gs_tables.specs.declared.asking.Called.TheVariants as called
use Rattle.gs_tables.specs.declared.answering.Scalar.{Scalar}
use Rattle.gs_tables.specs.declared.answering.Scalar.TheVariants as scalar
use Rattle.gs_tables.specs.declared.tables.Tables.{Tables}

-- the program asks this question next, and goes on so
abbrev pub IsNext : Setup → (k : ℕ) → Question → (Answer → Dialogue) → Type 0
IsNext s k q next = (st : State) × (rest_at s k ≡ Ask q st next)

-- the question has this answer, and the tables stand for one question more
pub record HasGone (t : Tables) (s : Setup) (k : ℕ) (h : History) (next : Answer → Dialogue)
    (a : Answer) : Type 0 where
  pub holds : Holds t s (suc k) h
  pub rest : rest_at s (suc k) ≡ next a

-- the question may be answered, and this is the answer
pub record IsDueAnswer (s : Setup) (k : ℕ) (h : History) (q : Question) (a : Answer) : Type 0 where
  pub may : MayAnswer s h k q
  pub says : reply s.run.texts.ops (world_at s k) q ≡ Some a

-- a file of the user's that the call reads, and that wasn't looked at for it
pub record IsLook (t : Tables) (s : Setup) (k op : ℕ) (args : List CallArg) (name : List ℕ) :
    Type 0 where
  pub reads : IsReadOriginal name
      (read_by (writings s.run k) (params_at s.run.texts.ops op) args)
  pub unseen : seen_of (looks_in t.looks) name ≡ None

-- what came of a call: it was answered; it may not be answered yet; a file is to be looked at; or
-- its task has a note of another form
abbrev pub IsCalled : Setup → (k : ℕ) → History → (op line : ℕ) → List CallArg
    → (Answer → Dialogue) → (new : Tables) → Called → Type 0
IsCalled s k h op line args next new called.Went = HasGone new s k h next answer.Went
IsCalled s k h op line args next new called.Absent = HasGone new s k h next answer.Absent
IsCalled s k h op line args next new called.TooLong = HasGone new s k h next answer.TooLong
IsCalled s k h op line args next new (called.Waits back) =
    Holds new s k h × (back ≡ args) × (MayAnswer s h k (q.Call op line args) → ⊥)
IsCalled s k h op line args next new (called.Looks name back) =
    Holds new s k h × (back ≡ args) × MayAnswer s h k (q.Call op line args)
    × IsLook new s k op args name
IsCalled s k h op line args next new (called.Misfits index back) =
    Holds new s k h × (back ≡ args) × IsMisfit s k index

-- how many bytes a version has is known where a task gave it, or the program
abbrev pub IsKept : Setup → (k : ℕ) → Version → Option ℕ → Type 0
IsKept s k v None = (name : List ℕ) × (v ≡ Original name)
IsKept s k v (Some kept) = (bytes : List ℕ)
    × (version_value s.run.files (world_at s k) v ≡ Some (Known bytes)) × (kept ≡ length bytes)

-- the version of a file that is opened; None where it can't be opened yet
abbrev pub IsOpening : Setup → (k : ℕ) → History → Question → (name : List ℕ)
    → Option (Version × Option ℕ) → Type 0
IsOpening s k h asked name None = MayAnswer s h k asked → ⊥
IsOpening s k h asked name (Some v) =
    MayAnswer s h k asked × (v.0 ≡ latest name (writings s.run k)) × IsKept s k v.0 v.1

-- a number or a string that is noted
abbrev pub scalar_of : Note → Option Scalar
scalar_of (note.File len) = None
scalar_of (note.Int v) = Some (scalar.Int v)
scalar_of (note.Str s) = Some (scalar.Str s)

abbrev pub value_of : Scalar → Value
value_of (scalar.Int v) = value.Int v
value_of (scalar.Str s) = value.Str s

-- what came of a use: the value answers it; or it may not be answered yet
abbrev pub IsUsed : Setup → (k : ℕ) → History → (n place : ℕ) → (Answer → Dialogue)
    → (new : Tables) → Option Scalar → Type 0
IsUsed s k h n place next new None = Holds new s k h × (MayAnswer s h k (q.Use n place) → ⊥)
IsUsed s k h n place next new (Some v) = HasGone new s k h next (answer.Val (value_of v))
