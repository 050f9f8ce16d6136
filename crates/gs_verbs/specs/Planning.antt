-- What a call of `plan` did.
use Rattle.std.specs.Prelude.{◌≡◌, ◌⊎◌, ℕ, ◌+◌, ◌-◌, ◌*◌, ◌<◌, ◌≤◌, List, ◌++◌, length, take, slice_get, Option, Some, None, IsSome, Result, Ok, Err}
use Rattle.gs_types.specs.Counts.{Rises}
use Rattle.gs_types.specs.declared.action.Action.{Action}
use Rattle.gs_types.specs.declared.limits.TheConstants.{TEXT_LIMIT}
use Rattle.gs_disk.specs.Folder.{Folder, DiskState, Same}
use Rattle.gs_disk.specs.Moments.{Passes}
use Rattle.gs_entries.specs.Order.{stage_of}
use Rattle.gs_entries.specs.declared.entry.Entry.{Entry}
use Rattle.gs_entries.specs.declared.entry.Entry.TheVariants as made
use Rattle.gs_entries.specs.declared.entry.GateNote.{GateNote}
use Rattle.gs_entries.specs.declared.entry.Texts.{Texts}
use Rattle.gs_idl.specs.Interface.{Interface, Signature}
use Rattle.gs_idl.specs.Grammar.{IsFault, Says}
use Rattle.gs_idl.specs.declared.token.IdlKind.{IdlKind}
use Rattle.gs_plan.specs.Durations as durations
use Rattle.gs_plan.specs.Fits.{Fit}
use Rattle.gs_plan.specs.Planned.{IsPlanOf as IsScheduled, IsLeastEnd}
use Rattle.gs_plan.specs.Text.{text_of}
use Rattle.gs_plan.specs.declared.kind.DurKind.{DurKind}
use Rattle.gs_plan.specs.declared.table.Plan.{Plan}
use Rattle.gs_store.specs.State.{StoreState}
use Rattle.gs_store.specs.Loading.{IsStoreOf}
use Rattle.gs_store.specs.Ordered.{texts_of, gate_in, HasEnded}
use Rattle.gs_verbs.specs.Finding.{IsBad}
use Rattle.gs_verbs.specs.declared.durations.Text.{Text}
use Rattle.gs_verbs.specs.declared.durations.Text.TheVariants.{Long, Read}
use Rattle.gs_verbs.specs.declared.loading.Unloaded.{Unloaded}
use Rattle.gs_verbs.specs.declared.loading.Unloaded.TheVariants as unloaded
use Rattle.gs_verbs.specs.declared.stops.BadStore.{BadStore}
use Rattle.gs_verbs.specs.declared.stops.BadStore.TheVariants.{Log, Record, Lost}
use Rattle.gs_verbs.specs.declared.stops.PlanStop.{PlanStop}
use Rattle.gs_verbs.specs.declared.stops.PlanStop.TheVariants.{NoText, BadText, Store, NoRun, Disk, Sink, Memory}

abbrev pub plan_stop : Unloaded → PlanStop
plan_stop (unloaded.Bad bad) = Store bad
plan_stop unloaded.Disk = Disk
plan_stop unloaded.Memory = Memory

-- ---- the file of durations

-- what was read of a file: that it is beyond the limit of texts, or its bytes
abbrev pub IsTextOf : List ℕ → Text → Type 0
IsTextOf file Long = TEXT_LIMIT < length file
IsTextOf file (Read bytes) = file ≡ bytes

abbrev pub ReadTold : Option (List ℕ) → Result Text PlanStop → Type 0
ReadTold file (Ok text) = (bytes : List ℕ) × (file ≡ Some bytes) × IsTextOf bytes text
ReadTold file (Err NoText) = file ≡ None
ReadTold file (Err (BadText line kind)) = ⊥
ReadTold file (Err (Store bad)) = ⊥
ReadTold file (Err NoRun) = ⊥
ReadTold file (Err Disk) = Unit {0}
ReadTold file (Err Sink) = ⊥
ReadTold file (Err Memory) = Unit {0}

-- a fault is one of the disk, and nothing was written to the output
abbrev pub IsCaused : {T : Type 0} → ℕ → ℕ → Result T PlanStop → Type 0
IsCaused old new (Ok x) = Unit {0}
IsCaused old new (Err NoText) = Unit {0}
IsCaused old new (Err (BadText line kind)) = Unit {0}
IsCaused old new (Err (Store bad)) = Unit {0}
IsCaused old new (Err NoRun) = Unit {0}
IsCaused old new (Err Disk) = Rises old new
IsCaused old new (Err Sink) = ⊥
IsCaused old new (Err Memory) = Unit {0}

pub record ReadEnds {T : Type 0} (old new : ℕ) (result : Result T PlanStop) : Type 0 where
  pub rise : old ≤ new
  pub cause : IsCaused old new result

-- it fails for no fault of a disk or an output, and not for want of the file
abbrev pub FailsAlone : {T : Type 0} → Result T PlanStop → Type 0
FailsAlone (Ok x) = Unit {0}
FailsAlone (Err NoText) = ⊥
FailsAlone (Err (BadText line kind)) = Unit {0}
FailsAlone (Err (Store bad)) = Unit {0}
FailsAlone (Err NoRun) = Unit {0}
FailsAlone (Err Disk) = ⊥
FailsAlone (Err Sink) = ⊥
FailsAlone (Err Memory) = Unit {0}

-- the file says no durations, with its first fault; or memory was wanting
abbrev pub IsUnread : List Signature → List ℕ → PlanStop → Type 0
IsUnread ops file NoText = ⊥
IsUnread ops file (BadText line kind) = durations.IsRefused ops file line kind
IsUnread ops file (Store bad) = ⊥
IsUnread ops file NoRun = ⊥
IsUnread ops file Disk = ⊥
IsUnread ops file Sink = ⊥
IsUnread ops file Memory = Unit {0}

-- ---- what a record says of its run

-- the record is of this interface
pub record HasInterface (es : List Entry) (i : Interface) : Type 0 where
  pub texts : Texts
  pub header : texts_of es ≡ Some texts
  pub says : Says texts.idl i

-- its run has ended, and its interface has a fault
pub record HasBadInterface (es : List Entry) : Type 0 where
  pub ended : HasEnded (stage_of es)
  pub texts : Texts
  pub header : texts_of es ≡ Some texts
  pub line : ℕ
  pub kind : IdlKind
  pub fault : IsFault texts.idl line kind

-- its run has ended, and what the main program did fits the interface
pub record HasRun (es : List Entry) (i : Interface) (g : GateNote) : Type 0 where
  pub interface : HasInterface es i
  pub gate : gate_in es ≡ Some g
  pub fit : Fit (length i.ops) g.actions

-- its run has ended, and what the main program did, which this record says, doesn't fit the
-- interface
pub record HasUnfit (es : List Entry) (index : ℕ) : Type 0 where
  pub i : Interface
  pub interface : HasInterface es i
  pub g : GateNote
  pub gate : gate_in es ≡ Some g
  pub there : slice_get es index ≡ Some (made.Gate g)
  pub unfit : Fit (length i.ops) g.actions → ⊥

-- no plan is made of the record with this number
abbrev pub IsUnusable : List Entry → BadStore → Type 0
IsUnusable es (Log at) = ⊥
IsUnusable es (Record index) = ((index ≡ 0) × HasBadInterface es) ⊎ HasUnfit es index
IsUnusable es (Lost version kept found) = ⊥

-- reading the interface gives this
abbrev pub IsNoInterface : List Entry → PlanStop → Type 0
IsNoInterface es NoText = ⊥
IsNoInterface es (BadText line kind) = ⊥
IsNoInterface es (Store bad) = IsUnusable es bad
IsNoInterface es NoRun = ⊥
IsNoInterface es Disk = ⊥
IsNoInterface es Sink = ⊥
IsNoInterface es Memory = Unit {0}

-- ---- the plan

-- memory was wanting
abbrev pub IsWanting : PlanStop → Type 0
IsWanting NoText = ⊥
IsWanting (BadText line kind) = ⊥
IsWanting (Store bad) = ⊥
IsWanting NoRun = ⊥
IsWanting Disk = ⊥
IsWanting Sink = ⊥
IsWanting Memory = Unit {0}

-- the bytes are the text of the plan for these actions, which is the rule's; no schedule ends
-- earlier than its chain and its work allow, and it ends not much later
pub record IsPlanned (slots : ℕ) (longs : List ℕ) (actions : List Action) (bytes : List ℕ)
    : Type 0 where
  pub plan : Plan
  pub scheduled : IsScheduled slots longs actions plan
  pub bound : slots * plan.end ≤ plan.work + (slots - 1) * plan.length
  pub least : IsLeastEnd slots longs actions plan
  pub is : bytes ≡ text_of plan

-- the bytes are the plan of the record's run, by the durations that the file says
pub record IsPlanOf (slots : ℕ) (es : List Entry) (file bytes : List ℕ) : Type 0 where
  pub i : Interface
  pub g : GateNote
  pub run : HasRun es i g
  pub longs : List ℕ
  pub said : durations.Says i.ops file longs
  pub planned : IsPlanned slots longs g.actions bytes

-- the record's run can be planned, but the file says no durations for it
pub record HasBadText (es : List Entry) (file : List ℕ) (line : ℕ) (kind : DurKind)
    : Type 0 where
  pub i : Interface
  pub g : GateNote
  pub run : HasRun es i g
  pub refused : durations.IsRefused i.ops file line kind

-- why there is no plan of the record's run by this file
abbrev pub IsNoPlan : List Entry → List ℕ → PlanStop → Type 0
IsNoPlan es file NoText = ⊥
IsNoPlan es file (BadText line kind) = HasBadText es file line kind
IsNoPlan es file (Store bad) = IsUnusable es bad
IsNoPlan es file NoRun = HasEnded (stage_of es) → ⊥
IsNoPlan es file Disk = ⊥
IsNoPlan es file Sink = ⊥
IsNoPlan es file Memory = Unit {0}

-- ---- in a folder

-- the folder has the file of durations, and a store with these entries
pub record Finds (folder : Folder) (name file : List ℕ) (es : List Entry) : Type 0 where
  pub there : folder name ≡ Some file
  pub store : StoreState
  pub found : IsStoreOf store folder
  pub entries : es ≡ store.entries

-- the bytes are the plan of the run of the folder's store
pub record IsPlanIn (slots : ℕ) (folder : Folder) (name bytes : List ℕ) : Type 0 where
  pub file : List ℕ
  pub es : List Entry
  pub finds : Finds folder name file es
  pub plan : IsPlanOf slots es file bytes

-- no plan is made of the folder's store, which it has beside the file
pub record IsNoPlanIn (folder : Folder) (name : List ℕ) (stop : PlanStop) : Type 0 where
  pub file : List ℕ
  pub es : List Entry
  pub finds : Finds folder name file es
  pub why : IsNoPlan es file stop

-- why no plan is made, the first that is met: the file is absent; there is no store; no run has
-- ended; its interface doesn't read, or its actions don't fit; the file says no durations
abbrev pub IsUnplanned : Folder → (name : List ℕ) → PlanStop → Type 0
IsUnplanned folder name NoText = folder name ≡ None
IsUnplanned folder name (BadText line kind) = IsNoPlanIn folder name (BadText line kind)
IsUnplanned folder name (Store bad) = (IsSome (folder name) × IsBad folder bad)
    ⊎ IsNoPlanIn folder name (Store bad)
IsUnplanned folder name NoRun = IsNoPlanIn folder name NoRun
IsUnplanned folder name Disk = Unit {0}
IsUnplanned folder name Sink = ⊥
IsUnplanned folder name Memory = Unit {0}

-- ---- the whole

-- what each answer says of the counts of the disk and of the output
abbrev pub PlanCause : (disk_old disk_new out_old out_new : ℕ) → Result Unit PlanStop → Type 0
PlanCause d e o p (Ok done) = Unit {0}
PlanCause d e o p (Err NoText) = Unit {0}
PlanCause d e o p (Err (BadText line kind)) = Unit {0}
PlanCause d e o p (Err (Store bad)) = Unit {0}
PlanCause d e o p (Err NoRun) = Unit {0}
PlanCause d e o p (Err Disk) = Rises d e
PlanCause d e o p (Err Sink) = Rises o p
PlanCause d e o p (Err Memory) = Unit {0}

-- the run of the folder's store has a plan
abbrev pub HasPlan : ℕ → Folder → (name : List ℕ) → Type 0
HasPlan slots folder name = (bytes : List ℕ) × IsPlanIn slots folder name bytes

-- what each answer says of the folder
abbrev pub PlanJudged : ℕ → Folder → (name : List ℕ) → Result Unit PlanStop → Type 0
PlanJudged slots folder name (Ok done) = HasPlan slots folder name
PlanJudged slots folder name (Err NoText) = folder name ≡ None
PlanJudged slots folder name (Err (BadText line kind)) =
    IsNoPlanIn folder name (BadText line kind)
PlanJudged slots folder name (Err (Store bad)) = (IsSome (folder name) × IsBad folder bad)
    ⊎ IsNoPlanIn folder name (Store bad)
PlanJudged slots folder name (Err NoRun) = IsNoPlanIn folder name NoRun
PlanJudged slots folder name (Err Disk) = Unit {0}
PlanJudged slots folder name (Err Sink) = HasPlan slots folder name
PlanJudged slots folder name (Err Memory) = Unit {0}

-- what each answer wrote: the plan; where the output failed, a first part of it; else nothing
abbrev pub PlanWrote : (told : Type 0) → (slots : ℕ) → Folder → (name old new : List ℕ)
    → Result Unit PlanStop → Type 0
PlanWrote told slots folder name old new (Ok done) =
    (text : List ℕ) × (told → IsPlanIn slots folder name text) × (new ≡ old ++ text)
PlanWrote told slots folder name old new (Err NoText) = new ≡ old
PlanWrote told slots folder name old new (Err (BadText line kind)) = new ≡ old
PlanWrote told slots folder name old new (Err (Store bad)) = new ≡ old
PlanWrote told slots folder name old new (Err NoRun) = new ≡ old
PlanWrote told slots folder name old new (Err Disk) = new ≡ old
PlanWrote told slots folder name old new (Err Sink) =
    (text : List ℕ) × (told → IsPlanIn slots folder name text)
    × ((k : ℕ) × (k ≤ length text) × (new ≡ old ++ take k text))
PlanWrote told slots folder name old new (Err Memory) = new ≡ old

-- what a call did on a disk that tells its folder where `told` holds, and an output that tells what
-- was written where `wrote` holds
pub record RanPlan (told wrote : Type 0) (old new : DiskState) (out_old out_new : ℕ)
    (written_old written_new : List ℕ) (slots : ℕ) (name : List ℕ)
    (answer : Result Unit PlanStop) : Type 0 where
  pub cause : PlanCause old.faults new.faults out_old out_new answer
  pub judged : told → PlanJudged slots old.folder name answer
  pub same : told → new.folder ≡ old.folder
  -- a crash within the call leaves nothing that one before it could not have left
  pub images : told → Passes Same old new
  pub written : wrote → PlanWrote told slots old.folder name written_old written_new answer
