-- When a folder stands for the texts, the user's files at first, and the law.
use Rattle.std.specs.Prelude.{◌≡◌, ℕ, List, [], All, Some}
use Rattle.std.specs.Bool.{⊤}
use Rattle.gs_types.specs.declared.value.Value.{Value}
use Rattle.gs_types.specs.declared.value.Value.TheVariants as value
use Rattle.gs_types.specs.declared.note.OutNote.{OutNote}
use Rattle.gs_types.specs.declared.note.FinalNote.{FinalNote}
use Rattle.gs_disk.specs.Folder.{Folder, Outside}
use Rattle.gs_disk.specs.Name.{IsUser}
use Rattle.gs_entries.specs.Order.{stage_of}
use Rattle.gs_entries.specs.declared.entry.Entry.{Entry}
use Rattle.gs_entries.specs.declared.entry.Entry.TheVariants as made
use Rattle.gs_entries.specs.declared.entry.GateNote.{GateNote}
use Rattle.gs_entries.specs.declared.entry.Stage.{Stage}
use Rattle.gs_entries.specs.declared.entry.Stage.TheVariants as stages
use Rattle.gs_store.specs.Names.{out_name, version_name}
use Rattle.gs_store.specs.Keeps.{HasEntries}
use Rattle.gs_store.specs.Ordered.{AreInOrder, texts_of, gate_in}
use Rattle.gs_back.specs.Finals.{names_of, finals_in}
use Rattle.gs_talk.specs.declared.question.Question.TheVariants.{End}
use Rattle.gs_talk.specs.Seq.{Task, Known, EndsIn, output_of}
use Rattle.gs_talk_laws.specs.Fuels.{IsPrefixOf}
use Rattle.gs_talk_laws.specs.Versions.{version_value}
use Rattle.gs_history.specs.Setup.{Setup, world_at}
use Rattle.gs_tables.specs.Outs.{outs_noted}
use Rattle.gs_core.specs.Gate.{IsGate}
use Rattle.gs_life.specs.Origin.{Origin, run_of, contents, IsOutput, UsersAre}

-- ---- what the entries say

-- task n, of this operation, gave what is noted, and its files stand
pub record IsDone (o : Origin) (folder : Folder) (n op : ℕ) (notes : List OutNote) : Type 0 where
  pub task : Task
  pub outs : List Value
  pub output : IsOutput o n task outs
  pub op_is : op ≡ task.op
  pub notes_are : notes ≡ outs_noted 1 task.params outs
  pub files : (place : ℕ) (bytes : List ℕ)
      → output_of (Some task) place ≡ Some (value.File bytes)
      → folder (out_name n place) ≡ Some bytes

-- what an entry says of a task is so
abbrev pub IsRight : Origin → Folder → Entry → Type 0
IsRight o folder (made.Done n op notes) = IsDone o folder n op notes
IsRight o folder (made.Header t) = ⊤
IsRight o folder (made.Gate g) = ⊤
IsRight o folder made.Closed = ⊤

-- the entries are of these texts, and go on from those that stood; what they say of tasks is so
pub record AreOf (o : Origin) (folder : Folder) (es : List Entry) : Type 0 where
  pub in_order : AreInOrder es
  pub header : texts_of es ≡ Some o.texts
  pub goes_on : IsPrefixOf o.stood es
  pub dones : All (IsRight o folder) es

-- ---- behind the gate

-- the file of a final's version holds what the version is
abbrev pub IsHeld : Setup → (k : ℕ) → Folder → FinalNote → Type 0
IsHeld s k folder f = (bytes : List ℕ)
    → version_value s.run.files (world_at s k) f.version ≡ Some (Known bytes)
    → folder (version_name f.version) ≡ Some bytes

-- the sequential run ends at some fuel, the entry says what it did and left, and the files of the
-- finals' versions stand
pub record IsGateOf (o : Origin) (folder : Folder) (g : GateNote) : Type 0 where
  pub setup : Setup
  pub run_is : setup.run ≡ run_of o setup.run.fuel
  pub questions : ℕ
  pub ends : EndsIn setup.run questions End
  pub says : IsGate setup questions g
  pub held : All (IsHeld setup questions folder) g.finals

-- the user's files but the finals are those at first
abbrev pub OthersAre : Origin → Folder → GateNote → Type 0
OthersAre o folder g =
    (x : List ℕ) → IsUser x → Outside (names_of (finals_in g.names g.finals)) x
    → folder x ≡ o.files x

-- the user's files are those that the sequential run leaves
abbrev pub AreLeft : Setup → (k : ℕ) → Folder → Type 0
AreLeft s k folder = (x : List ℕ) → IsUser x → contents folder x ≡ (world_at s k).files x

-- ---- the cases

-- nothing is recorded
pub record IsFresh (o : Origin) (folder : Folder) : Type 0 where
  pub goes_on : o.stood ≡ []
  pub users : UsersAre o folder

-- the run goes on: the user's files are those at first
pub record IsRunning (o : Origin) (folder : Folder) (es : List Entry) : Type 0 where
  pub stage : stage_of es ≡ stages.Running
  pub are : AreOf o folder es
  pub users : UsersAre o folder

-- the program has ended: the user's files but the finals are those at first
pub record IsGated (o : Origin) (folder : Folder) (es : List Entry) : Type 0 where
  pub stage : stage_of es ≡ stages.Gated
  pub are : AreOf o folder es
  pub note : GateNote
  pub noted : gate_in es ≡ Some note
  pub gate : IsGateOf o folder note
  pub users : OthersAre o folder note

-- the results are brought back: the user's files are those that the sequential run leaves
pub record IsClosed (o : Origin) (folder : Folder) (es : List Entry) : Type 0 where
  pub stage : stage_of es ≡ stages.Closed
  pub are : AreOf o folder es
  pub note : GateNote
  pub noted : gate_in es ≡ Some note
  pub gate : IsGateOf o folder note
  pub left : AreLeft gate.setup gate.questions folder

-- a folder stands for what a run is of, by the entries that its log has
pub data Stands (o : Origin) (folder : Folder) : Type 0 where
  Fresh : HasEntries [] folder → IsFresh o folder → Stands o folder
  Running : (es : List Entry) → HasEntries es folder → IsRunning o folder es → Stands o folder
  Gated : (es : List Entry) → HasEntries es folder → IsGated o folder es → Stands o folder
  Closed : (es : List Entry) → HasEntries es folder → IsClosed o folder es → Stands o folder

-- the last of these cases: the results are in the user's files
abbrev pub StandsClosed : Origin → Folder → Type 0
StandsClosed o folder = (es : List Entry) × HasEntries es folder × IsClosed o folder es

-- the case that these entries lead to
abbrev pub StandsAt : Origin → Folder → List Entry → Stage → Type 0
StandsAt o folder es stages.Fresh = (es ≡ []) × IsFresh o folder
StandsAt o folder es stages.Running = IsRunning o folder es
StandsAt o folder es stages.Gated = IsGated o folder es
StandsAt o folder es stages.Closed = IsClosed o folder es
