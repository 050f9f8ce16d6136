-- How a call stops in the run, and what that says.
use Rattle.std.proofs.Common.{ℕ, ◌≤◌, List, Err, refl, inl, inr, arith}
use Rattle.gs_types.specs.Counts.{Rises}
use Rattle.gs_types.specs.declared.settings.FaultKind.{FaultKind}
use Rattle.gs_broker.specs.Listed.{entries_in}
use Rattle.gs_check.specs.Passing.{interface_in, program_in}
use Rattle.gs_disk.specs.Folder.{Folder, DiskState}
use Rattle.gs_entries.specs.declared.entry.Texts.{Texts}
use Rattle.gs_store.specs.State.{StoreState}
use Rattle.gs_verbs.specs.declared.stops.BadStore.{BadStore}
use Rattle.gs_life.specs.Origin.{Origin}
use Rattle.gs_run.specs.Course.{NeedsNone}
use Rattle.gs_run.specs.Halted.{HaltsAs, FinishesBy}
use Rattle.gs_run.specs.Ran.{BlamesBy, MayServe, IsServed, Judged, Left, Wrote, Printed}
use Rattle.gs_run.specs.Ready.{IsReady}
use Rattle.gs_run.specs.declared.judge.Plan.{Plan}
use Rattle.gs_run.specs.declared.ready.Ready.{Ready}
use Rattle.gs_run.specs.declared.ready.Ready.TheVariants.{Ended, Going}
use Rattle.gs_run.specs.declared.stop.Stop.{Stop}
use Rattle.gs_run.specs.declared.stop.Stop.TheVariants as stop

-- ---- the folder as the call began

pub may_serve : (f : Folder) (i p w : List ℕ) (r : Ready) → IsReady f i p w r → MayServe f i p w
may_serve f i p w (Ended store) is =
    inl (record { texts = is.0; store = store; finds = is.1; ended = is.2 })
may_serve f i p w (Going t store plan) is = inr (
  t,
  record { store = store; finds = is.0; goes_on = is.1 },
  (interface_in plan.checked, program_in plan.checked, entries_in plan.workers, is.2),
)

served : (f : Folder) (i p w : List ℕ) (t : Texts) (store : StoreState)
    (plan : Plan) → IsReady f i p w (Going t store plan)
    → IsServed f i p w
served f i p w t store plan is = (
  t,
  record { store = store; finds = is.0; goes_on = is.1 },
  (interface_in plan.checked, program_in plan.checked, entries_in plan.workers, is.2),
)

pub judged_stop : (f : Folder) (i p w : List ℕ) (r : Ready) (e : Stop) → IsReady f i p w r
    → HaltsAs {T = StoreState} r (Err e) → Judged f i p w (Err e)
judged_stop f i p w (Ended store) (stop.Usage word) is halts = absurd halts
judged_stop f i p w (Ended store) (stop.NoText name) is halts = absurd halts
judged_stop f i p w (Ended store) (stop.BadText name line k) is halts = absurd halts
judged_stop f i p w (Ended store) (stop.OtherRun what) is halts = absurd halts
judged_stop f i p w (Ended store) (stop.BadStore why) is halts = inr (may_serve f i p w (Ended store) is)
judged_stop f i p w (Ended store) (stop.Fault line k) is halts = absurd halts
judged_stop f i p w (Ended store) (stop.FuelOut fuel) is halts = absurd halts
judged_stop f i p w (Ended store) (stop.TaskLost n) is halts = absurd halts
judged_stop f i p w (Ended store) (stop.WorkersLost n) is halts = absurd halts
judged_stop f i p w (Ended store) stop.Gated is halts = absurd halts
judged_stop f i p w (Ended store) stop.NoRun is halts = absurd halts
judged_stop f i p w (Ended store) stop.Disk is halts = tt
judged_stop f i p w (Ended store) stop.Sink is halts = absurd halts
judged_stop f i p w (Ended store) stop.Memory is halts = tt
judged_stop f i p w (Going t store plan) (stop.Usage word) is halts =
    absurd halts
judged_stop f i p w (Going t store plan) (stop.NoText name) is halts =
    absurd halts
judged_stop f i p w (Going t store plan) (stop.BadText name line k) is halts =
    absurd halts
judged_stop f i p w (Going t store plan) (stop.OtherRun what) is halts =
    absurd halts
judged_stop f i p w (Going t store plan) (stop.BadStore why) is halts =
    inr (may_serve f i p w (Going t store plan) is)
judged_stop f i p w (Going t store plan) (stop.Fault line k) is halts =
    served f i p w t store plan is
judged_stop f i p w (Going t store plan) (stop.FuelOut fuel) is halts =
    served f i p w t store plan is
judged_stop f i p w (Going t store plan) (stop.TaskLost n) is halts =
    served f i p w t store plan is
judged_stop f i p w (Going t store plan) (stop.WorkersLost n) is halts =
    served f i p w t store plan is
judged_stop f i p w (Going t store plan) stop.Gated is halts =
    absurd halts
judged_stop f i p w (Going t store plan) stop.NoRun is halts =
    absurd halts
judged_stop f i p w (Going t store plan) stop.Disk is halts =
    tt
judged_stop f i p w (Going t store plan) stop.Sink is halts =
    absurd halts
judged_stop f i p w (Going t store plan) stop.Memory is halts =
    tt

pub finish_needs : (results : Type 0) (e : Stop) → FinishesBy e → NeedsNone results e
finish_needs results (stop.Usage word) h = absurd h
finish_needs results (stop.NoText name) h = absurd h
finish_needs results (stop.BadText name line k) h = absurd h
finish_needs results (stop.OtherRun what) h = absurd h
finish_needs results (stop.BadStore why) h = absurd h
finish_needs results (stop.Fault line k) h = absurd h
finish_needs results (stop.FuelOut fuel) h = absurd h
finish_needs results (stop.TaskLost n) h = absurd h
finish_needs results (stop.WorkersLost n) h = absurd h
finish_needs results stop.Gated h = absurd h
finish_needs results stop.NoRun h = absurd h
finish_needs results stop.Disk h = tt
finish_needs results stop.Sink h = absurd h
finish_needs results stop.Memory h = tt

-- ---- the counts

more_rises : (old mid new : ℕ) → old ≤ mid → Rises mid new → Rises old new
more_rises old mid new le r = omega arith

pub blames_stop : (fuel old mid new k l o p : ℕ) (r : Ready) (e : Stop) → old ≤ mid
    → HaltsAs {T = StoreState} r (Err e) → BlamesBy fuel mid new k l 0 0 e
    → BlamesBy fuel old new k l o p e
blames_stop fuel old mid new k l o p (Ended store) (stop.Usage word) le halts h = absurd halts
blames_stop fuel old mid new k l o p (Ended store) (stop.NoText name) le halts h = absurd halts
blames_stop fuel old mid new k l o p (Ended store) (stop.BadText name line x) le halts h = absurd halts
blames_stop fuel old mid new k l o p (Ended store) (stop.OtherRun what) le halts h = absurd halts
blames_stop fuel old mid new k l o p (Ended store) (stop.BadStore why) le halts h = h
blames_stop fuel old mid new k l o p (Ended store) (stop.Fault line x) le halts h = absurd halts
blames_stop fuel old mid new k l o p (Ended store) (stop.FuelOut steps) le halts h = absurd halts
blames_stop fuel old mid new k l o p (Ended store) (stop.TaskLost n) le halts h = absurd halts
blames_stop fuel old mid new k l o p (Ended store) (stop.WorkersLost n) le halts h = absurd halts
blames_stop fuel old mid new k l o p (Ended store) stop.Gated le halts h = absurd halts
blames_stop fuel old mid new k l o p (Ended store) stop.NoRun le halts h = absurd halts
blames_stop fuel old mid new k l o p (Ended store) stop.Disk le halts h = more_rises old mid new le h
blames_stop fuel old mid new k l o p (Ended store) stop.Sink le halts h = absurd halts
blames_stop fuel old mid new k l o p (Ended store) stop.Memory le halts h = h
blames_stop fuel old mid new k l o p (Going t store plan) (stop.Usage word) le halts h = absurd halts
blames_stop fuel old mid new k l o p (Going t store plan) (stop.NoText name) le halts h = absurd halts
blames_stop fuel old mid new k l o p (Going t store plan) (stop.BadText name line x) le halts h = absurd halts
blames_stop fuel old mid new k l o p (Going t store plan) (stop.OtherRun what) le halts h = absurd halts
blames_stop fuel old mid new k l o p (Going t store plan) (stop.BadStore why) le halts h = h
blames_stop fuel old mid new k l o p (Going t store plan) (stop.Fault line x) le halts h = h
blames_stop fuel old mid new k l o p (Going t store plan) (stop.FuelOut steps) le halts h = h
blames_stop fuel old mid new k l o p (Going t store plan) (stop.TaskLost n) le halts h = h
blames_stop fuel old mid new k l o p (Going t store plan) (stop.WorkersLost n) le halts h = h
blames_stop fuel old mid new k l o p (Going t store plan) stop.Gated le halts h = absurd halts
blames_stop fuel old mid new k l o p (Going t store plan) stop.NoRun le halts h = absurd halts
blames_stop fuel old mid new k l o p (Going t store plan) stop.Disk le halts h = more_rises old mid new le h
blames_stop fuel old mid new k l o p (Going t store plan) stop.Sink le halts h = absurd halts
blames_stop fuel old mid new k l o p (Going t store plan) stop.Memory le halts h = h

-- ---- the output and what is left

-- why a call stops in the run
data Halting : Stop → Type 0 where
  bad : (why : BadStore) → Halting (stop.BadStore why)
  fault : (line : ℕ) (k : FaultKind) → Halting (stop.Fault line k)
  fuel : (steps : ℕ) → Halting (stop.FuelOut steps)
  task : (n : ℕ) → Halting (stop.TaskLost n)
  workers : (n : ℕ) → Halting (stop.WorkersLost n)
  disk : Halting stop.Disk
  memory : Halting stop.Memory

halting : (r : Ready) (e : Stop) → HaltsAs {T = StoreState} r (Err e) → Halting e
halting (Ended store) (stop.Usage word) halts = absurd halts
halting (Ended store) (stop.NoText name) halts = absurd halts
halting (Ended store) (stop.BadText name line k) halts = absurd halts
halting (Ended store) (stop.OtherRun what) halts = absurd halts
halting (Ended store) (stop.BadStore why) halts = bad why
halting (Ended store) (stop.Fault line k) halts = absurd halts
halting (Ended store) (stop.FuelOut steps) halts = absurd halts
halting (Ended store) (stop.TaskLost n) halts = absurd halts
halting (Ended store) (stop.WorkersLost n) halts = absurd halts
halting (Ended store) stop.Gated halts = absurd halts
halting (Ended store) stop.NoRun halts = absurd halts
halting (Ended store) stop.Disk halts = disk
halting (Ended store) stop.Sink halts = absurd halts
halting (Ended store) stop.Memory halts = memory
halting (Going t store plan) (stop.Usage word) halts = absurd halts
halting (Going t store plan) (stop.NoText name) halts = absurd halts
halting (Going t store plan) (stop.BadText name line k) halts = absurd halts
halting (Going t store plan) (stop.OtherRun what) halts = absurd halts
halting (Going t store plan) (stop.BadStore why) halts = bad why
halting (Going t store plan) (stop.Fault line k) halts = fault line k
halting (Going t store plan) (stop.FuelOut steps) halts = fuel steps
halting (Going t store plan) (stop.TaskLost n) halts = task n
halting (Going t store plan) (stop.WorkersLost n) halts = workers n
halting (Going t store plan) stop.Gated halts = absurd halts
halting (Going t store plan) stop.NoRun halts = absurd halts
halting (Going t store plan) stop.Disk halts = disk
halting (Going t store plan) stop.Sink halts = absurd halts
halting (Going t store plan) stop.Memory halts = memory

left_by : (old new : DiskState) (i p w : List ℕ) (e : Stop) → MayServe old.folder i p w → Halting e
    → Left old new i p w (Err e)
left_by old new i p w e may (bad why) = inr may
left_by old new i p w e may (fault line k) = tt
left_by old new i p w e may (fuel steps) = tt
left_by old new i p w e may (task n) = tt
left_by old new i p w e may (workers n) = tt
left_by old new i p w e may disk = tt
left_by old new i p w e may memory = tt

wrote_by : (written : List ℕ) (e : Stop) → Halting e → Wrote written written (Err e)
wrote_by written e (bad why) = refl
wrote_by written e (fault line k) = refl
wrote_by written e (fuel steps) = refl
wrote_by written e (task n) = refl
wrote_by written e (workers n) = refl
wrote_by written e disk = refl
wrote_by written e memory = refl

printed_by : (o : Origin) (written : List ℕ) (e : Stop) → Halting e
    → Printed o written written (Err e)
printed_by o written e (bad why) = tt
printed_by o written e (fault line k) = tt
printed_by o written e (fuel steps) = tt
printed_by o written e (task n) = tt
printed_by o written e (workers n) = tt
printed_by o written e disk = tt
printed_by o written e memory = tt

pub left_stop : (old new : DiskState) (i p w : List ℕ) (r : Ready) (e : Stop)
    → IsReady old.folder i p w r → HaltsAs {T = StoreState} r (Err e) → Left old new i p w (Err e)
left_stop old new i p w r e is halts =
    left_by old new i p w e (may_serve old.folder i p w r is) (halting r e halts)

pub wrote_stop : (written : List ℕ) (r : Ready) (e : Stop) → HaltsAs {T = StoreState} r (Err e)
    → Wrote written written (Err e)
wrote_stop written r e halts = wrote_by written e (halting r e halts)

pub printed_stop : (o : Origin) (written : List ℕ) (r : Ready) (e : Stop)
    → HaltsAs {T = StoreState} r (Err e) → Printed o written written (Err e)
printed_stop o written r e halts = printed_by o written e (halting r e halts)
