-- What a call of `report` did.
use Rattle.std.specs.Prelude.{◌≡◌, ℕ, ◌≤◌, List, ◌++◌, length, take, Result, Ok, Err}
use Rattle.gs_types.specs.Counts.{Rises}
use Rattle.gs_disk.specs.Folder.{Folder, DiskState, Same}
use Rattle.gs_disk.specs.Moments.{Passes}
use Rattle.gs_report.specs.Report.{IsReport}
use Rattle.gs_store.specs.State.{StoreState}
use Rattle.gs_store.specs.Loading.{IsStoreOf}
use Rattle.gs_verbs.specs.Finding.{IsBad}
use Rattle.gs_verbs.specs.declared.loading.Unloaded.{Unloaded}
use Rattle.gs_verbs.specs.declared.loading.Unloaded.TheVariants as unloaded
use Rattle.gs_verbs.specs.declared.stops.ReportStop.{ReportStop}
use Rattle.gs_verbs.specs.declared.stops.ReportStop.TheVariants.{Store, Disk, Sink, Memory}

abbrev pub report_stop : Unloaded → ReportStop
report_stop (unloaded.Bad bad) = Store bad
report_stop unloaded.Disk = Disk
report_stop unloaded.Memory = Memory

-- the folder has a store, of which these bytes are the report
pub record IsReportIn (folder : Folder) (bytes : List ℕ) : Type 0 where
  pub store : StoreState
  pub found : IsStoreOf store folder
  pub report : IsReport folder store.entries bytes

-- the folder has a store
abbrev pub HasStore : Folder → Type 0
HasStore folder = (store : StoreState) × IsStoreOf store folder

-- what each answer says of the counts of the disk and of the output
abbrev pub ReportCause : (disk_old disk_new out_old out_new : ℕ) → Result Unit ReportStop → Type 0
ReportCause d e o p (Ok done) = Unit {0}
ReportCause d e o p (Err (Store bad)) = Unit {0}
ReportCause d e o p (Err Disk) = Rises d e
ReportCause d e o p (Err Sink) = Rises o p
ReportCause d e o p (Err Memory) = Unit {0}

-- what each answer says of the folder
abbrev pub ReportJudged : Folder → Result Unit ReportStop → Type 0
ReportJudged folder (Ok done) = HasStore folder
ReportJudged folder (Err (Store bad)) = IsBad folder bad
ReportJudged folder (Err Disk) = Unit {0}
ReportJudged folder (Err Sink) = HasStore folder
ReportJudged folder (Err Memory) = Unit {0}

-- what each answer wrote: the report; where the output failed, a first part of it; else nothing
abbrev pub ReportWrote : (told : Type 0) → Folder → (old new : List ℕ) → Result Unit ReportStop
    → Type 0
ReportWrote told folder old new (Ok done) = (text : List ℕ) × (told → IsReportIn folder text)
    × (new ≡ old ++ text)
ReportWrote told folder old new (Err (Store bad)) = new ≡ old
ReportWrote told folder old new (Err Disk) = new ≡ old
ReportWrote told folder old new (Err Sink) = (text : List ℕ) × (told → IsReportIn folder text)
    × ((k : ℕ) × (k ≤ length text) × (new ≡ old ++ take k text))
ReportWrote told folder old new (Err Memory) = new ≡ old

-- what a call did on a disk that tells its folder where `told` holds, and an output that tells what
-- was written where `wrote` holds
pub record RanReport (told wrote : Type 0) (old new : DiskState) (out_old out_new : ℕ)
    (written_old written_new : List ℕ) (answer : Result Unit ReportStop) : Type 0 where
  pub cause : ReportCause old.faults new.faults out_old out_new answer
  pub judged : told → ReportJudged old.folder answer
  pub same : told → new.folder ≡ old.folder
  -- a crash within the call leaves nothing that one before it could not have left
  pub images : told → Passes Same old new
  pub written : wrote → ReportWrote told old.folder written_old written_new answer
