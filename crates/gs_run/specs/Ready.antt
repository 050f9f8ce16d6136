-- Whether a run may begin: the folder's texts and its store.
use Rattle.std.specs.Prelude.{◌≡◌, ◌≢◌, ◌⊎◌, ℕ, List, Option, Some, None, Result, Ok, Err}
use Rattle.gs_types.specs.Counts.{Rises}
use Rattle.gs_disk.specs.Folder.{Folder, DiskState}
use Rattle.gs_entries.specs.Order.{stage_of}
use Rattle.gs_entries.specs.declared.entry.Entry.{Entry}
use Rattle.gs_entries.specs.declared.entry.Stage.TheVariants as stages
use Rattle.gs_entries.specs.declared.entry.Texts.{Texts}
use Rattle.gs_store.specs.State.{StoreState}
use Rattle.gs_store.specs.Loading.{IsStoreOf, IsLoaded}
use Rattle.gs_store.specs.Ordered.{texts_of, HasEnded, DifferFirst}
use Rattle.gs_store.specs.declared.err.StoreErr.{StoreErr}
use Rattle.gs_store.specs.declared.err.StoreErr.TheVariants.{BadLog, BadRecord, LostVersion, DiskFault, NoMemory}
use Rattle.gs_store.specs.declared.same.What.{What}
use Rattle.gs_verbs.specs.Finding.{IsBad}
use Rattle.gs_verbs.specs.declared.stops.BadStore.{BadStore}
use Rattle.gs_verbs.specs.declared.stops.BadStore.TheVariants as bad
use Rattle.gs_run.specs.Judging.{SaysPlan, JudgeTold}
use Rattle.gs_run.specs.Showing.{stop_of}
use Rattle.gs_run.specs.Sources.{HasSources, AreNamed, FirstMissing, FirstLong}
use Rattle.gs_run.specs.declared.kinds.TextKind.{TextKind}
use Rattle.gs_run.specs.declared.ready.Ready.{Ready}
use Rattle.gs_run.specs.declared.ready.Ready.TheVariants.{Ended, Going}
use Rattle.gs_run.specs.declared.refusal.Refusal.TheVariants as refusal
use Rattle.gs_run.specs.declared.refusal.Unready.{Unready}
use Rattle.gs_run.specs.declared.refusal.Unready.TheVariants.{Text, Store, Other, Disk, Memory}
use Rattle.gs_run.specs.declared.stop.Stop.{Stop}
use Rattle.gs_run.specs.declared.stop.Stop.TheVariants as stop

abbrev pub unready_of : StoreErr → Unready
unready_of (BadLog at) = Store (bad.Log at)
unready_of (BadRecord index) = Store (bad.Record index)
unready_of (LostVersion v kept found) = Store (bad.Lost v kept found)
unready_of DiskFault = Disk
unready_of NoMemory = Memory

abbrev pub stop_unready : Unready → Stop
stop_unready (Text refusal) = stop_of refusal
stop_unready (Store why) = stop.BadStore why
stop_unready (Other what) = stop.OtherRun what
stop_unready Disk = stop.Disk
stop_unready Memory = stop.Memory

-- nothing is recorded, or it is of a run of these texts
abbrev pub IsOwn : List Entry → Texts → Type 0
IsOwn es t = (stage_of es ≡ stages.Fresh) ⊎ (texts_of es ≡ Some t)

-- entries that are of these other texts first
pub record IsOtherOf (es : List Entry) (t : Texts) (what : What) : Type 0 where
  pub begun : stage_of es ≢ stages.Fresh
  pub kept : Texts
  pub recorded : texts_of es ≡ Some kept
  pub differ : DifferFirst what kept t

-- a store of these texts was loaded
pub record HasLoaded (t : Texts) (s : DiskState) (store : StoreState) : Type 0 where
  pub loaded : IsLoaded s store
  pub own : IsOwn store.entries t

-- the folder holds these texts under the two names, and a store that is theirs
pub record Finds (folder : Folder) (idl program : List ℕ) (t : Texts) (store : StoreState)
    : Type 0 where
  pub sources : HasSources folder idl program t
  pub found : IsStoreOf store folder
  pub own : IsOwn store.entries t

-- the program of the folder's store has ended
pub record HasResults (folder : Folder) (idl program : List ℕ) : Type 0 where
  pub texts : Texts
  pub store : StoreState
  pub finds : Finds folder idl program texts store
  pub ended : HasEnded (stage_of store.entries)

-- it hasn't
pub record MayRun (folder : Folder) (idl program : List ℕ) (t : Texts) : Type 0 where
  pub store : StoreState
  pub finds : Finds folder idl program t store
  pub goes_on : HasEnded (stage_of store.entries) → ⊥

-- the folder's store is closed: the results of its run are in the user's files
pub record HasClosed (folder : Folder) : Type 0 where
  pub store : StoreState
  pub found : IsStoreOf store folder
  pub closed : stage_of store.entries ≡ stages.Closed

-- the folder holds these texts, and its store is of a run of others
pub record IsOther (folder : Folder) (idl program : List ℕ) (what : What) : Type 0 where
  pub texts : Texts
  pub sources : HasSources folder idl program texts
  pub store : StoreState
  pub found : IsStoreOf store folder
  pub other : IsOtherOf store.entries texts what

-- no store of these texts was loaded from the folder
abbrev pub IsUnread : Texts → Folder → Unready → Type 0
IsUnread t folder (Text r) = ⊥
IsUnread t folder (Store why) = IsBad folder why
IsUnread t folder (Other what) =
    (store : StoreState) × IsStoreOf store folder × IsOtherOf store.entries t what
IsUnread t folder Disk = Unit {0}
IsUnread t folder Memory = Unit {0}

-- the folder holds the texts, and has no store
abbrev pub HasBad : Folder → (idl program : List ℕ) → BadStore → Type 0
HasBad folder idl program why = ((t : Texts) × HasSources folder idl program t) × IsBad folder why

-- the first text that is absent when its turn comes: the worker list's is looked for where a run may
-- begin or go on
abbrev pub LacksText : Folder → (idl program workers name : List ℕ) → Type 0
LacksText folder idl program workers name = FirstMissing folder idl program name
    ⊎ (((t : Texts) × MayRun folder idl program t) × (name ≡ workers) × (folder workers ≡ None))

-- the first text that goes wrong when its turn comes
abbrev pub HasFault : Folder → (idl program workers name : List ℕ) → (line : ℕ)
    → TextKind → Type 0
HasFault folder idl program workers name line k = FirstLong folder idl program name line k
    ⊎ ((t : Texts) × MayRun folder idl program t
    × JudgeTold t (folder workers) idl program workers (Err (refusal.BadText name line k)))

-- what a folder is where no run is begun, for this
abbrev pub IsUnready : Folder → (idl program workers : List ℕ) → Unready → Type 0
IsUnready folder idl program workers (Text (refusal.NoText name)) =
    LacksText folder idl program workers name
IsUnready folder idl program workers (Text (refusal.BadText name line k)) =
    HasFault folder idl program workers name line k
IsUnready folder idl program workers (Text refusal.Disk) = Unit {0}
IsUnready folder idl program workers (Text refusal.Memory) = Unit {0}
IsUnready folder idl program workers (Store why) = HasBad folder idl program why
IsUnready folder idl program workers (Other what) = IsOther folder idl program what
IsUnready folder idl program workers Disk = Unit {0}
IsUnready folder idl program workers Memory = Unit {0}

abbrev pub store_in : Ready → StoreState
store_in (Ended store) = store
store_in (Going t store plan) = store

-- results, or none; and the texts of a run have a record
abbrev pub IsAtStage : Ready → Type 0
IsAtStage (Ended store) = HasEnded (stage_of store.entries)
IsAtStage (Going t store plan) =
    (HasEnded (stage_of store.entries) → ⊥) × AreNamed t × SaysPlan t plan

-- a run of these texts with this store
abbrev pub IsGoing : Texts → StoreState → Ready → Type 0
IsGoing t store (Ended s) = ⊥
IsGoing t store (Going u s plan) = (u ≡ t) × (s ≡ store)

-- what judging the texts gives
abbrev pub GoingTold : Texts → (file : Option (List ℕ)) → (idl program workers : List ℕ)
    → Result Ready Unready → Type 0
GoingTold t file idl program workers (Ok (Ended store)) = ⊥
GoingTold t file idl program workers (Ok (Going u store plan)) =
    JudgeTold t file idl program workers (Ok plan)
GoingTold t file idl program workers (Err (Text r)) =
    JudgeTold t file idl program workers (Err r)
GoingTold t file idl program workers (Err (Store why)) = ⊥
GoingTold t file idl program workers (Err (Other what)) = ⊥
GoingTold t file idl program workers (Err Disk) = ⊥
GoingTold t file idl program workers (Err Memory) = ⊥

-- what was found: results, or a run that may begin or go on, with what its texts say
abbrev pub IsReady : Folder → (idl program workers : List ℕ) → Ready → Type 0
IsReady folder idl program workers (Ended store) =
    (t : Texts) × Finds folder idl program t store × HasEnded (stage_of store.entries)
IsReady folder idl program workers (Going t store plan) =
    Finds folder idl program t store × (HasEnded (stage_of store.entries) → ⊥)
    × JudgeTold t (folder workers) idl program workers (Ok plan)

-- a fault is one of the disk
abbrev pub UnreadyEnds : {T : Type 0} → ℕ → ℕ → Result T Unready → Type 0
UnreadyEnds old new (Ok x) = Unit {0}
UnreadyEnds old new (Err (Text (refusal.NoText name))) = Unit {0}
UnreadyEnds old new (Err (Text (refusal.BadText name line k))) = Unit {0}
UnreadyEnds old new (Err (Text refusal.Disk)) = Rises old new
UnreadyEnds old new (Err (Text refusal.Memory)) = Unit {0}
UnreadyEnds old new (Err (Store why)) = Unit {0}
UnreadyEnds old new (Err (Other what)) = Unit {0}
UnreadyEnds old new (Err Disk) = Rises old new
UnreadyEnds old new (Err Memory) = Unit {0}
