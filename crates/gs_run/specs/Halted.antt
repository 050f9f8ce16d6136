-- How the engine's answers stop a call.
use Rattle.std.specs.Prelude.{◌≡◌, ◌⊎◌, ℕ, ◌≤◌, List, [], ◌++◌, length, take, Some, Result, Ok, Err, IsErrOf}
use Rattle.std.specs.Bool.{⊤}
use Rattle.gs_types.specs.Counts.{Rises}
use Rattle.gs_types.specs.History.{History}
use Rattle.gs_types.specs.declared.settings.Settings.{Settings}
use Rattle.gs_entries.specs.declared.entry.Entry.{Entry as Store}
use Rattle.gs_entries.specs.declared.entry.GateNote.{GateNote}
use Rattle.gs_store.specs.Ordered.{gate_in}
use Rattle.gs_broker.specs.Text.{Entry}
use Rattle.gs_broker.specs.Listed.{entries_in}
use Rattle.gs_verbs.specs.declared.stops.BadStore.TheVariants as bad
use Rattle.gs_finish.specs.declared.halt.Halt.{Halt}
use Rattle.gs_finish.specs.declared.halt.Halt.TheVariants as halt
use Rattle.gs_engine.specs.declared.running.RunFault.{RunFault}
use Rattle.gs_engine.specs.declared.running.RunFault.TheVariants as fault
use Rattle.gs_life.specs.Origin.{Origin}
use Rattle.gs_run.specs.Course.{HasCourse}
use Rattle.gs_run.specs.declared.ready.Ready.{Ready}
use Rattle.gs_run.specs.declared.ready.Ready.TheVariants as ready
use Rattle.gs_run.specs.declared.stop.Stop.{Stop}
use Rattle.gs_run.specs.declared.stop.Stop.TheVariants as stop

abbrev pub stop_of_halt : Halt → Stop
stop_of_halt halt.Disk = stop.Disk
stop_of_halt halt.NoMemory = stop.Memory
stop_of_halt (halt.Lost v kept found) = stop.BadStore (bad.Lost v kept found)

-- of a call with so much fuel
abbrev pub stop_of_fault : (fuel : ℕ) → RunFault → Stop
stop_of_fault fuel (fault.Program line kind) = stop.Fault line kind
stop_of_fault fuel fault.FuelOut = stop.FuelOut fuel
stop_of_fault fuel (fault.TaskLost n) = stop.TaskLost n
stop_of_fault fuel (fault.WorkersLost n) = stop.WorkersLost n
stop_of_fault fuel (fault.BadRecord index) = stop.BadStore (bad.Record index)
stop_of_fault fuel (fault.Lost v kept found) = stop.BadStore (bad.Lost v kept found)
stop_of_fault fuel fault.Disk = stop.Disk
stop_of_fault fuel fault.NoMemory = stop.Memory

-- ---- what the parts of a call answer

-- the engine stops so
abbrev pub HaltsBy : Stop → Type 0
HaltsBy (stop.Usage word) = ⊥
HaltsBy (stop.NoText name) = ⊥
HaltsBy (stop.BadText name line k) = ⊥
HaltsBy (stop.OtherRun what) = ⊥
HaltsBy (stop.BadStore why) = ⊤
HaltsBy (stop.Fault line k) = ⊤
HaltsBy (stop.FuelOut fuel) = ⊤
HaltsBy (stop.TaskLost n) = ⊤
HaltsBy (stop.WorkersLost n) = ⊤
HaltsBy stop.Gated = ⊥
HaltsBy stop.NoRun = ⊥
HaltsBy stop.Disk = ⊤
HaltsBy stop.Sink = ⊥
HaltsBy stop.Memory = ⊤

abbrev pub Halts : {T : Type 0} → Result T Stop → Type 0
Halts (Ok x) = ⊤
Halts (Err e) = HaltsBy e

-- bringing results back stops so
abbrev pub FailsBy : Stop → Type 0
FailsBy (stop.Usage word) = ⊥
FailsBy (stop.NoText name) = ⊥
FailsBy (stop.BadText name line k) = ⊥
FailsBy (stop.OtherRun what) = ⊥
FailsBy (stop.BadStore why) = ⊤
FailsBy (stop.Fault line k) = ⊥
FailsBy (stop.FuelOut fuel) = ⊥
FailsBy (stop.TaskLost n) = ⊥
FailsBy (stop.WorkersLost n) = ⊥
FailsBy stop.Gated = ⊥
FailsBy stop.NoRun = ⊥
FailsBy stop.Disk = ⊤
FailsBy stop.Sink = ⊥
FailsBy stop.Memory = ⊤

abbrev pub Fails : {T : Type 0} → Result T Stop → Type 0
Fails (Ok x) = ⊤
Fails (Err e) = FailsBy e

-- what is ready stops so
abbrev pub HaltsAs : {T : Type 0} → Ready → Result T Stop → Type 0
HaltsAs (ready.Ended store) answer = Fails answer
HaltsAs (ready.Going t store plan) answer = Halts answer

-- bringing results back over a disk that stands answers so
abbrev pub FinishesBy : Stop → Type 0
FinishesBy (stop.Usage word) = ⊥
FinishesBy (stop.NoText name) = ⊥
FinishesBy (stop.BadText name line k) = ⊥
FinishesBy (stop.OtherRun what) = ⊥
FinishesBy (stop.BadStore why) = ⊥
FinishesBy (stop.Fault line k) = ⊥
FinishesBy (stop.FuelOut fuel) = ⊥
FinishesBy (stop.TaskLost n) = ⊥
FinishesBy (stop.WorkersLost n) = ⊥
FinishesBy stop.Gated = ⊥
FinishesBy stop.NoRun = ⊥
FinishesBy stop.Disk = ⊤
FinishesBy stop.Sink = ⊥
FinishesBy stop.Memory = ⊤

abbrev pub Finishes : {T : Type 0} → Result T Stop → Type 0
Finishes (Ok x) = ⊤
Finishes (Err e) = FinishesBy e

-- nothing was started
abbrev pub IsFinish : {T : Type 0} → Result T Stop → History → Type 0
IsFinish answer history = (history ≡ []) × Finishes answer

-- nothing was started, since memory was wanting; or this was the course of the run
abbrev pub RunsBy : {T : Type 0} → Origin → Settings → List Entry → List Store → Result T Stop
    → History → Type 0
RunsBy o settings workers es answer history = ((history ≡ []) × IsErrOf answer stop.Memory)
    ⊎ HasCourse o settings workers es history answer

abbrev pub CarriedBy : {T : Type 0} → Origin → Settings → Ready → Result T Stop → History → Type 0
CarriedBy o settings (ready.Ended store) answer history = IsFinish answer history
CarriedBy o settings (ready.Going t store plan) answer history =
    RunsBy o settings (entries_in plan.workers) store.entries answer history

-- what is ready is of the run
abbrev pub IsOfRun : Origin → Ready → Type 0
IsOfRun o (ready.Ended store) = ⊤
IsOfRun o (ready.Going t store plan) = o.texts ≡ t

-- all of a text was written; or the output failed, and a first part
abbrev pub PutText : (told : Type 0) → (text old new : List ℕ) → (out_old out_new : ℕ)
    → Result Unit Stop → Type 0
PutText told text old new o p (Ok done) = told → new ≡ old ++ text
PutText told text old new o p (Err (stop.Usage word)) = ⊥
PutText told text old new o p (Err (stop.NoText name)) = ⊥
PutText told text old new o p (Err (stop.BadText name line k)) = ⊥
PutText told text old new o p (Err (stop.OtherRun what)) = ⊥
PutText told text old new o p (Err (stop.BadStore why)) = ⊥
PutText told text old new o p (Err (stop.Fault line k)) = ⊥
PutText told text old new o p (Err (stop.FuelOut fuel)) = ⊥
PutText told text old new o p (Err (stop.TaskLost n)) = ⊥
PutText told text old new o p (Err (stop.WorkersLost n)) = ⊥
PutText told text old new o p (Err stop.Gated) = ⊥
PutText told text old new o p (Err stop.NoRun) = ⊥
PutText told text old new o p (Err stop.Disk) = ⊥
PutText told text old new o p (Err stop.Sink) = Rises o p
    × (told → (k : ℕ) × (k ≤ length text) × (new ≡ old ++ take k text))
PutText told text old new o p (Err stop.Memory) = ⊥

-- the text that is recorded
abbrev pub PutsText : List Store → (told : Type 0) → (old new : List ℕ) → (out_old out_new : ℕ)
    → Result Unit Stop → Type 0
PutsText es told old new o p answer = (g : GateNote) × (gate_in es ≡ Some g)
    × PutText told g.text old new o p answer
