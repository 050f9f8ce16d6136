-- What is noted of a task, and a note that isn't of its task.
use Rattle.std.specs.Prelude.{◌≡◌, ℕ, suc, ◌+◌, Bool, true, false, ◌&&◌, ◌==◌, List, [], ◌∷◌, length, map, Option, Some, None, if◌then◌else◌}
use Rattle.std.specs.Bool.{⊤}
use Rattle.gs_idl.specs.Interface.{Param, params_at, is_output}
use Rattle.gs_idl.specs.declared.idl.ParamKind.{ParamKind}
use Rattle.gs_idl.specs.declared.idl.ParamKind.TheVariants as kind
use Rattle.gs_types.specs.declared.note.Note.{Note}
use Rattle.gs_types.specs.declared.note.Note.TheVariants as note
use Rattle.gs_types.specs.declared.note.OutNote.{OutNote}
use Rattle.gs_types.specs.declared.value.Value.{Value}
use Rattle.gs_types.specs.declared.value.Value.TheVariants as value
use Rattle.gs_types.specs.History.{History, noted, started, refused, finished, failed, abandoned}
use Rattle.gs_talk.specs.declared.question.Question.{Question}
use Rattle.gs_talk.specs.declared.question.Question.TheVariants.{Call, Use, OpenFile, CloseFile, Barrier, End, Fault, FuelOut}
use Rattle.gs_talk.specs.Talk.{Dialogue, Done, Ask, Stop}
use Rattle.gs_talk.specs.Seq.{Task, first_refused, IsTask}
use Rattle.gs_history.specs.Setup.{Noting, Setup, world_at, rest_at, count_at}

-- ---- the form of a note

-- a file by its length, a number and a string as they are
abbrev pub note_of : Value → Note
note_of (value.File bytes) = note.File (length bytes)
note_of (value.Int v) = note.Int v
note_of (value.Str s) = note.Str s

abbrev pub kind_of : Note → ParamKind
kind_of (note.File len) = kind.File
kind_of (note.Int v) = kind.Int
kind_of (note.Str s) = kind.Str

abbrev pub same_kind : ParamKind → ParamKind → Bool
same_kind kind.File kind.File = true
same_kind kind.File kind.Int = false
same_kind kind.File kind.Str = false
same_kind kind.Int kind.File = false
same_kind kind.Int kind.Int = true
same_kind kind.Int kind.Str = false
same_kind kind.Str kind.File = false
same_kind kind.Str kind.Int = false
same_kind kind.Str kind.Str = true

-- the first of the notes is of this place and kind, and the others pass the test
abbrev pub gives_first : (place : ℕ) → ParamKind → List OutNote → (List OutNote → Bool) → Bool
gives_first place k [] more = false
gives_first place k (o ∷ outs) more = o.place == place && same_kind k (kind_of o.v) && more outs

-- one note for each place, from this one on, that gives something, in order and of its kind
abbrev pub are_given : (place : ℕ) → List Param → List OutNote → Bool
are_given place [] [] = true
are_given place [] (o ∷ outs) = false
are_given place (p ∷ ps) outs = if is_output p.dir
    then gives_first place p.kind outs (are_given (suc place) ps)
    else are_given (suc place) ps outs

-- the note is of this operation, and of each of its places that gives something
abbrev pub is_form : Noting → (op : ℕ) → List Param → Bool
is_form x op ps = x.op == op && are_given 1 ps x.outs

-- ---- notes as the oldest events

-- these notes say these values, which the task has that they are of
pub record IsNoted (s : Setup) (x : Noting) (n : ℕ) (outs : List Value) : Type 0 where
  pub number : x.n ≡ n
  pub values : map (λ o. o.v) x.outs ≡ map note_of outs
  pub gave : (t : Task) → IsTask s.run n t → is_form x t.op t.params ≡ true → t.outs ≡ Some outs

-- the history is of these notes alone
abbrev pub AreNoted : Setup → List Noting → History → Type 0
AreNoted s [] [] = ⊤
AreNoted s [] (e ∷ h) = ⊥
AreNoted s (x ∷ xs) [] = ⊥
AreNoted s (x ∷ xs) (noted n outs ∷ h) = IsNoted s x n outs × AreNoted s xs h
AreNoted s (x ∷ xs) (started n worker job ∷ h) = ⊥
AreNoted s (x ∷ xs) (refused n worker ∷ h) = ⊥
AreNoted s (x ∷ xs) (finished n outs ∷ h) = ⊥
AreNoted s (x ∷ xs) (failed n ∷ h) = ⊥
AreNoted s (x ∷ xs) (abandoned ∷ h) = ⊥

-- ---- a note that isn't of its task

-- the first note of task n
abbrev pub note_at : List Noting → (n : ℕ) → Option Noting
note_at [] n = None
note_at (x ∷ xs) n = if x.n == n then Some x else note_at xs n

-- the question calls a task of another operation, or one that gives something else
abbrev pub OtherTask : Setup → (k : ℕ) → Noting → Question → Type 0
OtherTask s k x (Call op line args) =
    (first_refused (world_at s k).files (params_at s.run.texts.ops op) args ≡ None)
    × (is_form x op (params_at s.run.texts.ops op) ≡ false)
OtherTask s k x (Use n place) = ⊥
OtherTask s k x (OpenFile name mode line) = ⊥
OtherTask s k x (CloseFile name bytes) = ⊥
OtherTask s k x Barrier = ⊥
OtherTask s k x End = ⊥
OtherTask s k x (Fault line fault) = ⊥
OtherTask s k x FuelOut = ⊥

abbrev pub OtherNext : Setup → (k : ℕ) → Noting → Dialogue → Type 0
OtherNext s k x (Done n st) = ⊥
OtherNext s k x (Ask q st next) = OtherTask s k x q
OtherNext s k x (Stop q st) = ⊥

-- the task that is called next has a note of another form, with this index
pub record IsMisfit (s : Setup) (k : ℕ) (index : ℕ) : Type 0 where
  pub note : Noting
  pub noted : note_at s.notes (count_at s k + 1) ≡ Some note
  pub index_is : note.index ≡ index
  pub other : OtherNext s k note (rest_at s k)

abbrev pub NoMisfit : Setup → (k : ℕ) → Type 0
NoMisfit s k = (index : ℕ) → IsMisfit s k index → ⊥
