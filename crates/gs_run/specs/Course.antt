-- What a run of given texts does to a disk that stands for it, and to its link.
use Rattle.std.specs.Prelude.{◌≡◌, ◌≢◌, ◌⊎◌, ℕ, List, [], ◌∷◌, ◌++◌, map, slice_get, option_map, Option, Some, None, IsSome, true, Result, Ok, Err}
use Rattle.std.specs.Bool.{⊤}
use Rattle.gs_types.specs.History.{History, noted, started, refused, finished, failed, abandoned, outs_in}
use Rattle.gs_types.specs.Name.{IsName}
use Rattle.gs_types.specs.declared.settings.Settings.{Settings}
use Rattle.gs_idl.specs.Interface.{Interface, IsWellFormed}
use Rattle.gs_idl.specs.Grammar.{Says}
use Rattle.gs_tree.specs.Program.{Program}
use Rattle.gs_parse.specs.Faulty.{IsText}
use Rattle.gs_check.specs.Faults.{fault_of}
use Rattle.gs_broker.specs.Text.{Entry}
use Rattle.gs_broker.specs.TextLaws.{slots_by, takes_by}
use Rattle.gs_disk.specs.Folder.{DiskState}
use Rattle.gs_disk.specs.Moments.{EachNow, Always}
use Rattle.gs_entries.specs.Order.{has_done}
use Rattle.gs_entries.specs.declared.entry.Entry.{Entry as Recorded}
use Rattle.gs_talk.specs.declared.question.Question.{Question}
use Rattle.gs_talk.specs.declared.question.Question.TheVariants as q
use Rattle.gs_talk.specs.Talk.{State, Stop as Stopped}
use Rattle.gs_talk.specs.Seq.{seq, EndsIn}
use Rattle.gs_main.specs.Talking.{given_by}
use Rattle.gs_history.specs.Setup.{Setup}
use Rattle.gs_history.specs.Notes.{AreNoted}
use Rattle.gs_history.specs.Good.{Good, GoesOn}
use Rattle.gs_history.specs.Losses.{TaskLost, WorkersLost, NoLoss, IsLoss}
use Rattle.gs_tables.specs.Noted.{noting_of}
use Rattle.gs_engine.specs.Beginning.{notes_in}
use Rattle.gs_engine.specs.Running.{StandsRunning, KeepsDone}
use Rattle.gs_life.specs.Origin.{Origin, run_of}
use Rattle.gs_life.specs.Stands.{Stands, StandsClosed}
use Rattle.gs_run.specs.Served.{HasList}
use Rattle.gs_run.specs.declared.stop.Stop.{Stop}
use Rattle.gs_run.specs.declared.stop.Stop.TheVariants as stop

-- ---- of what a run is

-- the run is of the texts of these names, which the user's files at first hold, and which say what
-- the run is given: an interface, and a program that passes its checks
pub record IsRunOf (o : Origin) (idl program : List ℕ) : Type 0 where
  pub idl_is_name : IsName idl
  pub program_is_name : IsName program
  pub interface : Interface
  pub tree : Program
  pub idl_name : o.texts.idl_name ≡ idl
  pub program_name : o.texts.program_name ≡ program
  pub has_idl : o.files idl ≡ Some o.texts.idl
  pub has_program : o.files program ≡ Some o.texts.program
  pub says : Says o.texts.idl interface
  pub well_formed : IsWellFormed interface
  pub is_text : IsText o.texts.program tree
  pub passes : fault_of interface.ops tree ≡ None
  pub given : o.given ≡ given_by idl program interface tree

-- the sequential run, with these settings, workers, and notes of the tasks that are done by these
-- entries; each start costs nothing
abbrev pub setup_for : Origin → Settings → (workers : List Entry) → List Recorded → Setup
setup_for o settings workers es = record {
  run = run_of o settings.fuel;
  window = settings.window;
  tries = settings.tries;
  slots = λ w. slots_by (slice_get workers w);
  takes = λ w op. takes_by (slice_get workers w) op;
  program = λ w. option_map (λ (e : Entry). e.program) (slice_get workers w);
  cost = λ op w bytes. 0;
  notes = map noting_of (notes_in 0 es);
}

-- ---- the link's history

-- no start of task n is in the history, nor one that was refused
abbrev pub IsUnstarted : History → (n : ℕ) → Type 0
IsUnstarted [] n = ⊤
IsUnstarted (noted m outs ∷ h) n = IsUnstarted h n
IsUnstarted (started m w job ∷ h) n = (m ≢ n) × IsUnstarted h n
IsUnstarted (refused m w ∷ h) n = (m ≢ n) × IsUnstarted h n
IsUnstarted (finished m outs ∷ h) n = IsUnstarted h n
IsUnstarted (failed m ∷ h) n = IsUnstarted h n
IsUnstarted (abandoned ∷ h) n = IsUnstarted h n

-- jobs in flight may be given up with this answer
abbrev pub IsCut : Stop → Type 0
IsCut (stop.Usage word) = ⊥
IsCut (stop.NoText name) = ⊥
IsCut (stop.BadText name line k) = ⊥
IsCut (stop.OtherRun what) = ⊥
IsCut (stop.BadStore why) = ⊥
IsCut (stop.Fault line k) = ⊥
IsCut (stop.FuelOut fuel) = ⊥
IsCut (stop.TaskLost n) = ⊥
IsCut (stop.WorkersLost n) = ⊥
IsCut stop.Gated = ⊥
IsCut stop.NoRun = ⊥
IsCut stop.Disk = ⊤
IsCut stop.Sink = ⊥
IsCut stop.Memory = ⊤

abbrev pub IsCutShort : {T : Type 0} → Result T Stop → Type 0
IsCutShort (Ok x) = ⊥
IsCutShort (Err e) = IsCut e

-- the sequential run ends in this question, and nothing was given up
abbrev pub EndsSo : Setup → History → Question → Type 0
EndsSo s h q = ((k : ℕ) × EndsIn s.run k q) × NoLoss s h

-- what the answer says of the sequential run and of the history, where the program was run. The
-- record is never bad
abbrev pub ShowsBy : Setup → History → Stop → Type 0
ShowsBy s h (stop.Usage word) = ⊥
ShowsBy s h (stop.NoText name) = ⊥
ShowsBy s h (stop.BadText name line kind) = ⊥
ShowsBy s h (stop.OtherRun what) = ⊥
ShowsBy s h (stop.BadStore why) = ⊥
ShowsBy s h (stop.Fault line kind) = EndsSo s h (q.Fault line kind)
ShowsBy s h (stop.FuelOut fuel) = EndsSo s h q.FuelOut
ShowsBy s h (stop.TaskLost n) = IsLoss s h (TaskLost n)
ShowsBy s h (stop.WorkersLost n) = IsLoss s h (WorkersLost n)
ShowsBy s h stop.Gated = ⊥
ShowsBy s h stop.NoRun = ⊥
ShowsBy s h stop.Disk = ⊤
ShowsBy s h stop.Sink = EndsSo s h q.End
ShowsBy s h stop.Memory = ⊤

abbrev pub Shows : {T : Type 0} → Setup → History → Result T Stop → Type 0
Shows s h (Ok x) = EndsSo s h q.End
Shows s h (Err e) = ShowsBy s h e

-- the history, after what was recorded as the call began, is as it should be: each start is due and
-- of the job of its task, and no ready task waits for a wait. Jobs in flight are given up at its end
-- alone, and only where the run is cut short. It begins with what these entries say of tasks that
-- are done, and nothing else; and the answer is shown
pub record HasCourse {T : Type 0} (o : Origin) (settings : Settings) (workers : List Entry)
    (es : List Recorded) (history : History) (answer : Result T Stop) : Type 0 where
  pub noted : History
  pub are : AreNoted (setup_for o settings workers es) (map noting_of (notes_in 0 es)) noted
  pub good : Good (setup_for o settings workers es) (history ++ noted)
  pub whole : (IsCutShort answer → ⊥) → GoesOn (history ++ noted)
  pub recorded : (n : ℕ) → has_done es n ≡ true → IsSome (outs_in noted n)
  pub shows : Shows (setup_for o settings workers es) (history ++ noted) answer

-- the answer may come where no program was run: at the end where results were there. The folder
-- always has a store that may be used
abbrev pub NeedsNone : (results : Type 0) → Stop → Type 0
NeedsNone results (stop.Usage word) = ⊥
NeedsNone results (stop.NoText name) = ⊤
NeedsNone results (stop.BadText name line k) = ⊤
NeedsNone results (stop.OtherRun what) = ⊤
NeedsNone results (stop.BadStore why) = ⊥
NeedsNone results (stop.Fault line k) = ⊥
NeedsNone results (stop.FuelOut fuel) = ⊥
NeedsNone results (stop.TaskLost n) = ⊥
NeedsNone results (stop.WorkersLost n) = ⊥
NeedsNone results stop.Gated = ⊥
NeedsNone results stop.NoRun = ⊥
NeedsNone results stop.Disk = ⊤
NeedsNone results stop.Sink = results
NeedsNone results stop.Memory = ⊤

abbrev pub NeedsNoRun : {T : Type 0} → (results : Type 0) → Result T Stop → Type 0
NeedsNoRun results (Ok x) = results
NeedsNoRun results (Err e) = NeedsNone results e

-- nothing was started; or there were no results, and this was the course of the run from these
-- entries on, with the workers that the file lists
abbrev pub Takes : {T : Type 0} → Origin → Settings → List Recorded → (results : Type 0)
    → (file : Option (List ℕ)) → Result T Stop → History → Type 0
Takes o settings es results file answer history = ((history ≡ []) × NeedsNoRun results answer)
    ⊎ ((results → ⊥) × ((workers : List Entry) × HasList o.given.ops file workers
    × HasCourse o settings workers es history answer))

-- ---- the disk

-- the run is over, with no results: 7, 8 and 9
abbrev pub IsFruitlessBy : Stop → Type 0
IsFruitlessBy (stop.Usage word) = ⊥
IsFruitlessBy (stop.NoText name) = ⊥
IsFruitlessBy (stop.BadText name line k) = ⊥
IsFruitlessBy (stop.OtherRun what) = ⊥
IsFruitlessBy (stop.BadStore why) = ⊥
IsFruitlessBy (stop.Fault line k) = ⊤
IsFruitlessBy (stop.FuelOut fuel) = ⊤
IsFruitlessBy (stop.TaskLost n) = ⊤
IsFruitlessBy (stop.WorkersLost n) = ⊤
IsFruitlessBy stop.Gated = ⊥
IsFruitlessBy stop.NoRun = ⊥
IsFruitlessBy stop.Disk = ⊥
IsFruitlessBy stop.Sink = ⊥
IsFruitlessBy stop.Memory = ⊥

abbrev pub IsFruitless : {T : Type 0} → Result T Stop → Type 0
IsFruitless (Ok x) = ⊥
IsFruitless (Err e) = IsFruitlessBy e

-- where the results are brought back
abbrev pub AtEndBy : Stop → Type 0 → Type 0
AtEndBy (stop.Usage word) P = ⊤
AtEndBy (stop.NoText name) P = ⊤
AtEndBy (stop.BadText name line k) P = ⊤
AtEndBy (stop.OtherRun what) P = ⊤
AtEndBy (stop.BadStore why) P = ⊤
AtEndBy (stop.Fault line k) P = ⊤
AtEndBy (stop.FuelOut fuel) P = ⊤
AtEndBy (stop.TaskLost n) P = ⊤
AtEndBy (stop.WorkersLost n) P = ⊤
AtEndBy stop.Gated P = ⊤
AtEndBy stop.NoRun P = ⊤
AtEndBy stop.Disk P = ⊤
AtEndBy stop.Sink P = P
AtEndBy stop.Memory P = ⊤

abbrev pub AtEnd : {T : Type 0} → Result T Stop → Type 0 → Type 0
AtEnd (Ok x) P = P
AtEnd (Err e) P = AtEndBy e P

-- each image stands at every moment; the link tells a history more, of which this holds, and in
-- which no task is started that is done by the entries as the call begins. Unless the run was cut short, each
-- task that finished in it is recorded in each image. Where the run is over with no results, each
-- image is of a run that goes on: the user's files are as before. At the end each image is closed:
-- the user's files are those that the sequential run leaves
pub record Stood {T : Type 0} (o : Origin) (es : List Recorded) (past : History)
    (old new : DiskState) (tells : History → Type 0) (P : History → Type 0)
    (answer : Result T Stop) : Type 0 where
  pub always : Always (Stands o) old new
  pub history : History
  pub told : tells (history ++ past)
  pub holds : P history
  pub unstarted : (n : ℕ) → has_done es n ≡ true → IsUnstarted history n
  pub kept : (IsCutShort answer → ⊥) → KeepsDone history new
  pub running : IsFruitless answer → EachNow (StandsRunning o) new
  pub closed : AtEnd answer (EachNow (StandsClosed o) new)

-- ---- the text

-- the text that the sequential run has printed at its end, at some fuel
pub record IsTextOf (o : Origin) (text : List ℕ) : Type 0 where
  pub fuel : ℕ
  pub questions : ℕ
  pub state : State
  pub ends : (seq (run_of o fuel) questions).rest ≡ Stopped q.End state
  pub text_is : text ≡ state.text
