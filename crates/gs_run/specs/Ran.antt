-- What a call of `gs run` did.
use Rattle.std.specs.Prelude.{◌≡◌, ◌⊎◌, ℕ, ◌≤◌, List, ◌++◌, length, take, Option, None, Result, Ok, Err}
use Rattle.std.specs.Bool.{⊤}
use Rattle.gs_types.specs.Counts.{Rises}
use Rattle.gs_types.specs.History.{History}
use Rattle.gs_types.specs.Job.{Meaning}
use Rattle.gs_types.specs.declared.settings.Settings.{Settings}
use Rattle.gs_disk.specs.Folder.{Folder, DiskState, Same}
use Rattle.gs_disk.specs.Moments.{EachNow, Passes}
use Rattle.gs_entries.specs.declared.entry.Entry.{Entry as Recorded}
use Rattle.gs_entries.specs.declared.entry.Texts.{Texts}
use Rattle.gs_store.specs.Keeps.{HasEntries}
use Rattle.gs_idl.specs.Interface.{Interface}
use Rattle.gs_tree.specs.Program.{Program}
use Rattle.gs_broker.specs.Text.{Entry as Worker}
use Rattle.gs_talk.specs.declared.question.Question.{Question}
use Rattle.gs_talk.specs.declared.question.Question.TheVariants as q
use Rattle.gs_talk.specs.Seq.{EndsIn}
use Rattle.gs_life.specs.Origin.{Origin, run_of}
use Rattle.gs_life.specs.Stands.{Stands}
use Rattle.gs_engine.specs.Users.{UsersStay}
use Rattle.gs_run.specs.Course.{IsRunOf, IsFruitless, Takes, Stood, IsTextOf}
use Rattle.gs_run.specs.Ready.{LacksText, HasFault, IsOther, HasBad, HasResults, HasClosed, MayRun}
use Rattle.gs_run.specs.Served.{HasList, Served}
use Rattle.gs_run.specs.Unserved.{unserved}
use Rattle.gs_run.specs.declared.stop.Stop.{Stop}
use Rattle.gs_run.specs.declared.stop.Stop.TheVariants as stop

-- ---- the counts of faults

-- what each answer says of those of the disk, the link and the output
abbrev pub BlamesBy : (fuel : ℕ) → (disk_old disk_new link_old link_new out_old out_new : ℕ)
    → Stop → Type 0
BlamesBy fuel d e k l o p (stop.Usage word) = ⊥
BlamesBy fuel d e k l o p (stop.NoText name) = ⊤
BlamesBy fuel d e k l o p (stop.BadText name line kind) = ⊤
BlamesBy fuel d e k l o p (stop.OtherRun what) = ⊤
BlamesBy fuel d e k l o p (stop.BadStore why) = ⊤
BlamesBy fuel d e k l o p (stop.Fault line kind) = ⊤
BlamesBy fuel d e k l o p (stop.FuelOut steps) = steps ≡ fuel
BlamesBy fuel d e k l o p (stop.TaskLost n) = Rises k l
BlamesBy fuel d e k l o p (stop.WorkersLost n) = Rises k l
BlamesBy fuel d e k l o p stop.Gated = ⊥
BlamesBy fuel d e k l o p stop.NoRun = ⊥
BlamesBy fuel d e k l o p stop.Disk = Rises d e
BlamesBy fuel d e k l o p stop.Sink = Rises o p
BlamesBy fuel d e k l o p stop.Memory = ⊤

abbrev pub Blames : {T : Type 0} → (fuel : ℕ)
    → (disk_old disk_new link_old link_new out_old out_new : ℕ) → Result T Stop → Type 0
Blames fuel d e k l o p (Ok x) = ⊤
Blames fuel d e k l o p (Err failure) = BlamesBy fuel d e k l o p failure

-- ---- the folder as the call began

-- the texts say this, and a run may begin or go on
abbrev pub IsServed : Folder → (idl program workers : List ℕ) → Type 0
IsServed folder idl program workers = (t : Texts) × MayRun folder idl program t
    × ((i : Interface) × (p : Program) × (list : List Worker)
    × Served t (folder workers) i p list)

-- results are there, or the run may begin or go on
abbrev pub MayServe : Folder → (idl program workers : List ℕ) → Type 0
MayServe folder idl program workers =
    HasResults folder idl program ⊎ IsServed folder idl program workers

-- what each answer says of it
abbrev pub Judged : Folder → (idl program workers : List ℕ) → Result Unit Stop → Type 0
Judged folder idl program workers (Ok done) = MayServe folder idl program workers
Judged folder idl program workers (Err (stop.Usage word)) = ⊥
Judged folder idl program workers (Err (stop.NoText name)) =
    LacksText folder idl program workers name
Judged folder idl program workers (Err (stop.BadText name line kind)) =
    HasFault folder idl program workers name line kind
Judged folder idl program workers (Err (stop.OtherRun what)) = IsOther folder idl program what
Judged folder idl program workers (Err (stop.BadStore why)) =
    HasBad folder idl program why ⊎ MayServe folder idl program workers
Judged folder idl program workers (Err (stop.Fault line kind)) =
    IsServed folder idl program workers
Judged folder idl program workers (Err (stop.FuelOut steps)) =
    IsServed folder idl program workers
Judged folder idl program workers (Err (stop.TaskLost n)) = IsServed folder idl program workers
Judged folder idl program workers (Err (stop.WorkersLost n)) =
    IsServed folder idl program workers
Judged folder idl program workers (Err stop.Gated) = ⊥
Judged folder idl program workers (Err stop.NoRun) = ⊥
Judged folder idl program workers (Err stop.Disk) = ⊤
Judged folder idl program workers (Err stop.Sink) = MayServe folder idl program workers
Judged folder idl program workers (Err stop.Memory) = ⊤

-- ---- what is left

-- nothing was written: every file reads as before, and each image, within the call too, is one of
-- before
pub record Untouched (old new : DiskState) : Type 0 where
  pub files : new.folder ≡ old.folder
  pub images : Passes Same old new

-- where a text is refused, or the store is of another run or can't be loaded
abbrev pub Left : (old new : DiskState) → (idl program workers : List ℕ) → Result Unit Stop
    → Type 0
Left old new i p w (Ok done) = ⊤
Left old new i p w (Err (stop.Usage word)) = ⊥
Left old new i p w (Err (stop.NoText name)) = Untouched old new
Left old new i p w (Err (stop.BadText name line kind)) = Untouched old new
Left old new i p w (Err (stop.OtherRun what)) = Untouched old new
Left old new i p w (Err (stop.BadStore why)) = Untouched old new ⊎ MayServe old.folder i p w
Left old new i p w (Err (stop.Fault line kind)) = ⊤
Left old new i p w (Err (stop.FuelOut steps)) = ⊤
Left old new i p w (Err (stop.TaskLost n)) = ⊤
Left old new i p w (Err (stop.WorkersLost n)) = ⊤
Left old new i p w (Err stop.Gated) = ⊥
Left old new i p w (Err stop.NoRun) = ⊥
Left old new i p w (Err stop.Disk) = ⊤
Left old new i p w (Err stop.Sink) = ⊤
Left old new i p w (Err stop.Memory) = ⊤

-- ---- the output

-- each answer but these two writes nothing
abbrev pub Wrote : (old new : List ℕ) → Result Unit Stop → Type 0
Wrote old new (Ok done) = (text : List ℕ) × (new ≡ old ++ text)
Wrote old new (Err (stop.Usage word)) = ⊥
Wrote old new (Err (stop.NoText name)) = new ≡ old
Wrote old new (Err (stop.BadText name line kind)) = new ≡ old
Wrote old new (Err (stop.OtherRun what)) = new ≡ old
Wrote old new (Err (stop.BadStore why)) = new ≡ old
Wrote old new (Err (stop.Fault line kind)) = new ≡ old
Wrote old new (Err (stop.FuelOut steps)) = new ≡ old
Wrote old new (Err (stop.TaskLost n)) = new ≡ old
Wrote old new (Err (stop.WorkersLost n)) = new ≡ old
Wrote old new (Err stop.Gated) = ⊥
Wrote old new (Err stop.NoRun) = ⊥
Wrote old new (Err stop.Disk) = new ≡ old
Wrote old new (Err stop.Sink) = (text : List ℕ) × (k : ℕ) × (new ≡ old ++ take k text)
Wrote old new (Err stop.Memory) = new ≡ old

-- at the end the text of the sequential run was written; where the output failed, a first part of it
abbrev pub Printed : Origin → (old new : List ℕ) → Result Unit Stop → Type 0
Printed o old new (Ok done) = (text : List ℕ) × IsTextOf o text × (new ≡ old ++ text)
Printed o old new (Err (stop.Usage word)) = ⊥
Printed o old new (Err (stop.NoText name)) = ⊤
Printed o old new (Err (stop.BadText name line kind)) = ⊤
Printed o old new (Err (stop.OtherRun what)) = ⊤
Printed o old new (Err (stop.BadStore why)) = ⊤
Printed o old new (Err (stop.Fault line kind)) = ⊤
Printed o old new (Err (stop.FuelOut steps)) = ⊤
Printed o old new (Err (stop.TaskLost n)) = ⊤
Printed o old new (Err (stop.WorkersLost n)) = ⊤
Printed o old new (Err stop.Gated) = ⊥
Printed o old new (Err stop.NoRun) = ⊥
Printed o old new (Err stop.Disk) = ⊤
Printed o old new (Err stop.Sink) = (text : List ℕ) × IsTextOf o text
    × ((k : ℕ) × (k ≤ length text) × (new ≡ old ++ take k text))
Printed o old new (Err stop.Memory) = ⊤

-- ---- all of it

-- the call is one of this run: it is of the texts of these names, the link goes by its law and tells
-- this history, and each image stands
pub record Begins (o : Origin) (idl program : List ℕ) (law : Meaning) (tells : History → Type 0)
    (past : History) (disk : DiskState) : Type 0 where
  pub run_is : IsRunOf o idl program
  pub law_is : law ≡ o.law
  pub told : tells past
  pub stand : EachNow (Stands o) disk

-- what a call did with three names and these settings, on a disk that tells its folder where `told`
-- holds, a link under a law, and an output that tells what was written where `wrote` holds. Where
-- the store is closed nothing is written to the disk; and where the run is over with no results,
-- the user's files are as before in each image, at every moment, whatever the folder was
pub record Ran (settings : Settings) (told wrote : Type 0) (old new : DiskState) (law : Meaning)
    (tells_old tells_new : History → Type 0) (link_old link_new out_old out_new : ℕ)
    (written_old written_new : List ℕ) (idl program workers : List ℕ)
    (answer : Result Unit Stop) : Type 0 where
  pub cause : Blames settings.fuel old.faults new.faults link_old link_new out_old out_new answer
  pub judged : told → Judged old.folder idl program workers answer
  pub left : told → Left old new idl program workers answer
  pub still : told → HasClosed old.folder → Untouched old new
  pub users : told → IsFruitless answer → UsersStay old new
  pub written : wrote → Wrote written_old written_new answer
  pub stood : told → (o : Origin) (past : History)
      → Begins o idl program law tells_old past old
      → (es : List Recorded) × HasEntries es old.folder
      × Stood o es past old new tells_new (Takes o settings es
      (HasResults old.folder idl program) (old.folder workers) answer) answer
  pub printed : told → wrote → (o : Origin) (past : History)
      → Begins o idl program law tells_old past old → Printed o written_old written_new answer

-- ---- runs that end, and no fault

-- the status of an ended run
abbrev pub IsStatusOf : Question → ℕ → Type 0
IsStatusOf q.End status = status ≡ 0
IsStatusOf (q.Fault line kind) status = status ≡ 7
IsStatusOf q.FuelOut status = status ≡ 8
IsStatusOf (q.Call op line args) status = Unit {0}
IsStatusOf (q.Use n place) status = Unit {0}
IsStatusOf (q.OpenFile name mode line) status = Unit {0}
IsStatusOf (q.CloseFile name bytes) status = Unit {0}
IsStatusOf q.Barrier status = Unit {0}

-- the file lists workers, of whom each operation that the run calls has one
pub record HasWorkers (o : Origin) (file : Option (List ℕ)) : Type 0 where
  pub list : List Worker
  pub listed : HasList o.given.ops file list
  pub all : unserved o.given.ops list o.given.program.body ≡ None

-- The folder holds the run's texts and a store of theirs: results are there, or the run may begin or
-- go on where its workers are listed. Where results are there the status is 0, and where the run may
-- begin or go on it is that of the sequential run's end; or want of memory.
pub record IsComplete (o : Origin) (fuel : ℕ) (folder : Folder) (idl program workers : List ℕ)
    (status : ℕ) : Type 0 where
  pub finds : HasResults folder idl program
      ⊎ (HasWorkers o (folder workers) → IsServed folder idl program workers)
  pub brings : HasResults folder idl program → (status ≡ 0) ⊎ (status ≡ 12)
  pub ends : IsServed folder idl program workers → (k : ℕ) (x : Question)
      → EndsIn (run_of o fuel) k x → IsStatusOf x status ⊎ (status ≡ 12)
