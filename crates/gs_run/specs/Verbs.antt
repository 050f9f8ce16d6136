-- What a call of `gs report`, `gs clean` or `gs plan` did.
use Rattle.std.specs.Prelude.{◌≡◌, ℕ, List, Result, Ok, Err}
use Rattle.gs_disk.specs.Folder.{DiskState}
use Rattle.gs_verbs.specs.Reporting.{RanReport}
use Rattle.gs_verbs.specs.Cleaning.{RanClean}
use Rattle.gs_verbs.specs.Planning.{RanPlan}
use Rattle.gs_verbs.specs.declared.stops.ReportStop.{ReportStop}
use Rattle.gs_verbs.specs.declared.stops.ReportStop.TheVariants as reports
use Rattle.gs_verbs.specs.declared.stops.CleanStop.{CleanStop}
use Rattle.gs_verbs.specs.declared.stops.CleanStop.TheVariants as cleans
use Rattle.gs_verbs.specs.declared.stops.PlanStop.{PlanStop}
use Rattle.gs_verbs.specs.declared.stops.PlanStop.TheVariants as plans
use Rattle.gs_run.specs.declared.kinds.TextKind.TheVariants as kind
use Rattle.gs_run.specs.declared.stop.Stop.{Stop}
use Rattle.gs_run.specs.declared.stop.Stop.TheVariants as stop

abbrev pub report_answer : Result Unit ReportStop → Result Unit Stop
report_answer (Ok done) = Ok done
report_answer (Err (reports.Store bad)) = Err (stop.BadStore bad)
report_answer (Err reports.Disk) = Err stop.Disk
report_answer (Err reports.Sink) = Err stop.Sink
report_answer (Err reports.Memory) = Err stop.Memory

abbrev pub clean_answer : Result Unit CleanStop → Result Unit Stop
clean_answer (Ok done) = Ok done
clean_answer (Err cleans.Gated) = Err stop.Gated
clean_answer (Err cleans.Disk) = Err stop.Disk
clean_answer (Err cleans.Memory) = Err stop.Memory

-- of a plan by the file of this name
abbrev pub plan_answer : (name : List ℕ) → Result Unit PlanStop → Result Unit Stop
plan_answer name (Ok done) = Ok done
plan_answer name (Err plans.NoText) = Err (stop.NoText name)
plan_answer name (Err (plans.BadText line k)) = Err (stop.BadText name line (kind.Durations k))
plan_answer name (Err (plans.Store bad)) = Err (stop.BadStore bad)
plan_answer name (Err plans.NoRun) = Err stop.NoRun
plan_answer name (Err plans.Disk) = Err stop.Disk
plan_answer name (Err plans.Sink) = Err stop.Sink
plan_answer name (Err plans.Memory) = Err stop.Memory

-- a report was written, or not, with this answer
pub record Reported (told wrote : Type 0) (old new : DiskState) (out_old out_new : ℕ)
    (written_old written_new : List ℕ) (answer : Result Unit Stop) : Type 0 where
  pub result : Result Unit ReportStop
  pub ran : RanReport told wrote old new out_old out_new written_old written_new result
  pub is : answer ≡ report_answer result

-- the store was removed, or not, with this answer, and nothing was written to the output
pub record Cleaned (told wrote : Type 0) (old new : DiskState) (written_old written_new : List ℕ)
    (answer : Result Unit Stop) : Type 0 where
  pub result : Result Unit CleanStop
  pub ran : RanClean told old new result
  pub is : answer ≡ clean_answer result
  pub written : wrote → written_new ≡ written_old

-- a plan was written, or not, with this answer
pub record PlannedFor (told wrote : Type 0) (old new : DiskState) (out_old out_new : ℕ)
    (written_old written_new : List ℕ) (slots : ℕ) (durations : List ℕ)
    (answer : Result Unit Stop) : Type 0 where
  pub result : Result Unit PlanStop
  pub ran : RanPlan told wrote old new out_old out_new written_old written_new slots durations result
  pub is : answer ≡ plan_answer durations result
