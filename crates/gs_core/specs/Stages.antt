-- What is needed from the disk.
use Rattle.std.specs.Prelude.{◌≡◌, ℕ, ◌+◌, ◌<◌, ◌≤◌, List, length, Option, Some, None, ⊤}
use Rattle.gs_idl.specs.Interface.{params_at}
use Rattle.gs_types.specs.declared.limits.TheConstants.{FILE_LIMIT}
use Rattle.gs_types.specs.declared.note.Version.{Version}
use Rattle.gs_looks.specs.declared.look.Look.{Look}
use Rattle.gs_looks.specs.declared.look.Seen.{Seen}
use Rattle.gs_looks.specs.Looked.{IsSeen, seen_of}
use Rattle.gs_looks.specs.Judgement.{IsReadOriginal}
use Rattle.gs_talk.specs.declared.question.Question.{Question}
use Rattle.gs_talk.specs.declared.question.Question.TheVariants as q
use Rattle.gs_talk.specs.Talk.{Dialogue, Done, Ask, Stop}
use Rattle.gs_talk.specs.Seq.{Content, Known, Files}
use Rattle.gs_talk_laws.specs.Versions.{latest, writings, read_by}
use Rattle.gs_history.specs.Setup.{Setup, world_at}
use Rattle.gs_tables.specs.Asked.{IsKept}
use Rattle.gs_core.specs.declared.stage.Step.{Step}
use Rattle.gs_core.specs.declared.stage.Step.TheVariants as step
use Rattle.gs_core.specs.declared.stage.Loaded.{Loaded}
use Rattle.gs_core.specs.declared.stage.Loaded.TheVariants as loaded
use Rattle.gs_core.specs.declared.stage.Stage.{Stage}
use Rattle.gs_core.specs.declared.stage.Stage.TheVariants as stage

-- ---- what is asked and answered

-- no step waits for its answer
abbrev pub IsAnswered : Stage → Type 0
IsAnswered stage.Open = ⊤
IsAnswered (stage.Looking name) = ⊥
IsAnswered (stage.Looked name seen) = ⊤
IsAnswered stage.Loading = ⊥
IsAnswered (stage.Loaded l) = ⊤
IsAnswered (stage.Saving len) = ⊥
IsAnswered (stage.Saved len) = ⊤
IsAnswered stage.Settled = ⊤

abbrev pub IsLooking : Stage → Type 0
IsLooking stage.Open = ⊥
IsLooking (stage.Looking name) = ⊤
IsLooking (stage.Looked name seen) = ⊥
IsLooking stage.Loading = ⊥
IsLooking (stage.Loaded l) = ⊥
IsLooking (stage.Saving len) = ⊥
IsLooking (stage.Saved len) = ⊥
IsLooking stage.Settled = ⊥

abbrev pub IsSaving : Stage → Type 0
IsSaving stage.Open = ⊥
IsSaving (stage.Looking name) = ⊥
IsSaving (stage.Looked name seen) = ⊥
IsSaving stage.Loading = ⊥
IsSaving (stage.Loaded l) = ⊥
IsSaving (stage.Saving len) = ⊤
IsSaving (stage.Saved len) = ⊥
IsSaving stage.Settled = ⊥

-- the step waits for its answer, or nothing does
abbrev pub IsStageOf : Step → Stage → Type 0
IsStageOf (step.Look name) g = g ≡ stage.Looking name
IsStageOf (step.Load v kept) g = g ≡ stage.Loading
IsStageOf (step.Save k bytes) g = g ≡ stage.Saving (length bytes)
IsStageOf step.Settled g = g ≡ stage.Settled

abbrev pub with_seen : Seen → Stage → Stage
with_seen seen stage.Open = stage.Open
with_seen seen (stage.Looking name) = stage.Looked name seen
with_seen seen (stage.Looked name other) = stage.Open
with_seen seen stage.Loading = stage.Open
with_seen seen (stage.Loaded l) = stage.Open
with_seen seen (stage.Saving len) = stage.Open
with_seen seen (stage.Saved len) = stage.Open
with_seen seen stage.Settled = stage.Open

abbrev pub with_saved : Stage → Stage
with_saved stage.Open = stage.Open
with_saved (stage.Looking name) = stage.Open
with_saved (stage.Looked name seen) = stage.Open
with_saved stage.Loading = stage.Open
with_saved (stage.Loaded l) = stage.Open
with_saved (stage.Saving len) = stage.Saved len
with_saved (stage.Saved len) = stage.Open
with_saved stage.Settled = stage.Open

-- a job has ended: the frontier may be further on
abbrev pub reopened : Stage → Stage
reopened stage.Open = stage.Open
reopened (stage.Looking name) = stage.Looking name
reopened (stage.Looked name seen) = stage.Looked name seen
reopened stage.Loading = stage.Loading
reopened (stage.Loaded l) = stage.Loaded l
reopened (stage.Saving len) = stage.Saving len
reopened (stage.Saved len) = stage.Saved len
reopened stage.Settled = stage.Open

-- how many contents are kept that the program has not closed yet
abbrev pub ahead : Stage → ℕ
ahead stage.Open = 0
ahead (stage.Looking name) = 0
ahead (stage.Looked name seen) = 0
ahead stage.Loading = 0
ahead (stage.Loaded l) = 0
ahead (stage.Saving len) = 0
ahead (stage.Saved len) = 1
ahead stage.Settled = 0

-- ---- by the program's question

-- what was read is the content
abbrev pub IsLoaded : Option Content → Loaded → Type 0
IsLoaded c loaded.Absent = c ≡ None
IsLoaded c loaded.TooLong =
    (bytes : List ℕ) × (c ≡ Some (Known bytes)) × (FILE_LIMIT < length bytes)
IsLoaded c (loaded.Bytes bytes) = (c ≡ Some (Known bytes)) × (length bytes ≤ FILE_LIMIT)

-- it is of the file that the program opens
abbrev pub LoadedBy : Files → Loaded → Question → Type 0
LoadedBy files l (q.OpenFile name mode line) = IsLoaded (files name) l
LoadedBy files l (q.Call op line args) = ⊥
LoadedBy files l (q.Use n place) = ⊥
LoadedBy files l (q.CloseFile name bytes) = ⊥
LoadedBy files l q.Barrier = ⊥
LoadedBy files l q.End = ⊥
LoadedBy files l (q.Fault line kind) = ⊥
LoadedBy files l q.FuelOut = ⊥

abbrev pub LoadedOf : Files → Loaded → Dialogue → Type 0
LoadedOf files l (Done n st) = ⊥
LoadedOf files l (Ask x st next) = LoadedBy files l x
LoadedOf files l (Stop x st) = ⊥

-- it is as long as the content that the program closes
abbrev pub LengthBy : ℕ → Question → Type 0
LengthBy len (q.CloseFile name bytes) = len ≡ length bytes
LengthBy len (q.Call op line args) = ⊥
LengthBy len (q.Use n place) = ⊥
LengthBy len (q.OpenFile name mode line) = ⊥
LengthBy len q.Barrier = ⊥
LengthBy len q.End = ⊥
LengthBy len (q.Fault line kind) = ⊥
LengthBy len q.FuelOut = ⊥

abbrev pub LengthOf : ℕ → Dialogue → Type 0
LengthOf len (Done n st) = ⊥
LengthOf len (Ask x st next) = LengthBy len x
LengthOf len (Stop x st) = ⊥

-- the look is answered by what stands under the name
abbrev pub AnswersLook : Setup → Seen → Stage → Type 0
AnswersLook s seen stage.Open = ⊤
AnswersLook s seen (stage.Looking name) = IsSeen (s.run.files name) seen
AnswersLook s seen (stage.Looked name other) = ⊤
AnswersLook s seen stage.Loading = ⊤
AnswersLook s seen (stage.Loaded l) = ⊤
AnswersLook s seen (stage.Saving len) = ⊤
AnswersLook s seen (stage.Saved len) = ⊤
AnswersLook s seen stage.Settled = ⊤

-- ---- what a step is for

-- an original that the call reads that is asked, and that wasn't looked at for it
abbrev pub LookBy : Setup → (k : ℕ) → List Look → (name : List ℕ) → Question → Type 0
LookBy s k looks name (q.Call op line args) =
    IsReadOriginal name (read_by (writings s.run k) (params_at s.run.texts.ops op) args)
    × (seen_of looks name ≡ None)
LookBy s k looks name (q.Use n place) = ⊥
LookBy s k looks name (q.OpenFile x mode line) = ⊥
LookBy s k looks name (q.CloseFile x bytes) = ⊥
LookBy s k looks name q.Barrier = ⊥
LookBy s k looks name q.End = ⊥
LookBy s k looks name (q.Fault line kind) = ⊥
LookBy s k looks name q.FuelOut = ⊥

-- the version of the file that is opened, with its length
abbrev pub LoadBy : Setup → (k : ℕ) → Version → Option ℕ → Question → Type 0
LoadBy s k v kept (q.OpenFile name mode line) =
    (v ≡ latest name (writings s.run k)) × IsKept s k v kept
LoadBy s k v kept (q.Call op line args) = ⊥
LoadBy s k v kept (q.Use n place) = ⊥
LoadBy s k v kept (q.CloseFile x bytes) = ⊥
LoadBy s k v kept q.Barrier = ⊥
LoadBy s k v kept q.End = ⊥
LoadBy s k v kept (q.Fault line kind) = ⊥
LoadBy s k v kept q.FuelOut = ⊥

-- the content that is closed, which is the next in number
abbrev pub SaveBy : Setup → (k n : ℕ) → List ℕ → Question → Type 0
SaveBy s k n content (q.CloseFile name bytes) =
    (n ≡ length (world_at s k).closed + 1) × (content ≡ bytes)
SaveBy s k n content (q.Call op line args) = ⊥
SaveBy s k n content (q.Use m place) = ⊥
SaveBy s k n content (q.OpenFile x mode line) = ⊥
SaveBy s k n content q.Barrier = ⊥
SaveBy s k n content q.End = ⊥
SaveBy s k n content (q.Fault line kind) = ⊥
SaveBy s k n content q.FuelOut = ⊥

-- what the program asks next
abbrev pub ByAsked : (Question → Type 0) → Dialogue → Type 0
ByAsked P (Done n st) = ⊥
ByAsked P (Ask x st next) = P x
ByAsked P (Stop x st) = ⊥
