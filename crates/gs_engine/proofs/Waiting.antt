-- What a task gave is kept for the run.
use Rattle.std.proofs.Common.{◌≡◌, ◌≢◌, ℕ, Bool, true, false, List, [], ◌∷◌, ◌++◌, Option, Some, None, Result, Ok, Err, refl, sym, ap, subst, ◌∙◌, arith, if◌then◌else◌, inl, inr, eq-eqb, get_or}
use Rattle.std.specs.Prelude.{◌==◌, ◌||◌, option_map}
use Rattle.std.specs.List.{list_any}
use Rattle.std.proofs.lemmas.Bool.Decides.{eqb_tells}
use Rattle.std.proofs.lemmas.List.Folds.{list_any-append}
use Rattle.gs_idl.specs.Interface.{Param, Signature, KeepRules, params_at, name_at}
use Rattle.gs_idl.specs.declared.idl.Idl.{Idl}
use Rattle.gs_types.specs.Job.{Meaning, Gives}
use Rattle.gs_types.specs.History.{History}
use Rattle.gs_types.specs.declared.job.Arg.{Arg}
use Rattle.gs_types.specs.declared.job.Job.{Job}
use Rattle.gs_types.specs.declared.note.OutNote.{OutNote}
use Rattle.gs_types.specs.declared.value.Value.{Value}
use Rattle.gs_disk.specs.Folder.{Folder, DiskState, KeepsOthers}
use Rattle.gs_disk.specs.Moments.{Leaves}
use Rattle.gs_disk.specs.Going.{always_started}
use Rattle.gs_entries.specs.Order.{stage_of, dones, has_done}
use Rattle.gs_entries.specs.declared.entry.Entry.{Entry}
use Rattle.gs_entries.specs.declared.entry.Entry.TheVariants as made
use Rattle.gs_entries.specs.declared.entry.Stage.TheVariants as stages
use Rattle.gs_entries.proofs.Ordered.{dones_push}
use Rattle.gs_log.specs.Names.{log_name}
use Rattle.gs_store.specs.Names.{out_name, main_name}
use Rattle.gs_store.specs.State.{StoreState, with_entry}
use Rattle.gs_store.specs.declared.err.StoreErr.{StoreErr}
use Rattle.gs_talk.specs.Seq.{Run, Task, IsTask, task_at, gives, fitting}
use Rattle.gs_talk_laws.proofs.Fuels.{one_task}
use Rattle.gs_talk_laws.proofs.Stays.{tasks_read_versions}
use Rattle.gs_history.specs.Setup.{Setup, world_at}
use Rattle.gs_history.specs.Ready.{IsJob}
use Rattle.gs_tables.specs.Outs.{outs_noted}
use Rattle.gs_keep.specs.Given.{PlacedFile, placed, files_in, file_names, outside_files, done_entry}
use Rattle.gs_keep.specs.Kept.{KeepsOutputs}
use Rattle.gs_main.specs.Shown.{talking}
use Rattle.gs_core.specs.Core.{Stands as CoreStands}
use Rattle.gs_core.specs.declared.machine.Core.{Core}
use Rattle.gs_life.specs.Origin.{Origin, run_of, IsOutput}
use Rattle.gs_life.specs.Standing.{IsSteady}
use Rattle.gs_life.specs.Stands.{IsRunning, Stands}
use Rattle.gs_life.specs.Called.{Stood}
use Rattle.gs_life.proofs.Images.{image_runs, stage_after}
use Rattle.gs_life.proofs.Recording.{records}
use Rattle.gs_finish.specs.declared.halt.Halt.{Halt}
use Rattle.gs_engine.specs.Waiting.{HasGiven, AddsDone, MarksDone, SameMains, KeepsGiven}
use Rattle.gs_engine.proofs.WaitingFits.{fit_true}

-- ---- the task that gave something

-- the parameters of a task are those of its operation, and what it gave is what the law says
pub task_params : (r : Run) (n : ℕ) (t : Task) → IsTask r n t
    → t.params ≡ params_at r.texts.ops t.op
task_params r n t is = (tasks_read_versions r is.moment n t is.is).2.params

task_outs : (r : Run) (n : ℕ) (t : Task) → IsTask r n t
    → t.outs ≡ gives r.law (name_at r.texts.ops t.op) t.args
task_outs r n t is = (tasks_read_versions r is.moment n t is.is).2.outs

given_outs : (law : Meaning) (op : List ℕ) (args : List Arg) (outs : List Value)
    → Gives law op args outs → gives law op (Some args) ≡ Some outs
given_outs law op args outs gave = ap (fitting args) gave.said
    ∙ ap (λ (b : Bool). if b then Some outs else None) (fit_true args outs gave.fit)

-- what the law gives for a task's job, the task gave
pub job_gave : (s : Setup) (n w : ℕ) (t : Task) (job : Job) (law : Meaning) (outs : List Value)
    → IsTask s.run n t → IsJob s n w t job → s.run.law ≡ law → Gives law job.op job.args outs
    → t.outs ≡ Some outs
job_gave s n w t job law outs called is law_is gave =
    task_outs s.run n t called
    ∙ ap (λ (l : Meaning). gives l (name_at s.run.texts.ops t.op) t.args) law_is
    ∙ ap (λ (o : List ℕ). gives law o t.args) (sym is.op)
    ∙ ap (gives law job.op) is.args
    ∙ given_outs law job.op job.args outs gave

called_op : (o : Option Task) (op : ℕ) → Some op ≡ option_map (λ (t : Task). t.op) o
    → (t : Task) × (o ≡ Some t) × (op ≡ t.op)
called_op (Some t) op is = (t, refl, cc)
called_op None op is = absurd cc

-- what the core tells of the operation of task n
abbrev pub TellsOp : Core → (n op : ℕ) → Type 0
TellsOp core n op = (s : Setup) (k : ℕ) (h : History) → CoreStands core s k h
    → Some op ≡ option_map (λ (t : Task). t.op) (task_at (world_at s k).tasks n)

-- the operation that the core tells is the task's
pub op_is : (core : Core) (s : Setup) (n : ℕ) (t : Task) (outs : List Value) (op : ℕ)
    → TellsOp core n op → HasGiven core s n t outs → op ≡ t.op
op_is core s n t outs op tells g =
    let found = called_op (task_at (world_at s g.questions).tasks n) op
    (tells s g.questions g.history g.stands) in
    let one : found.0 ≡ t = one_task s.run n found.0 t
    (record { moment = g.questions; is = found.1 }) g.called in
    found.2 ∙ ap (λ (u : Task). u.op) one

-- and so are its parameters
pub params_are : (core : Core) (s : Setup) (n : ℕ) (t : Task) (outs : List Value) (op : ℕ)
    → HasGiven core s n t outs → op ≡ t.op
    → params_at (talking core.main).interface.ops op ≡ t.params
params_are core s n t outs op g same =
    ap (λ (ops : List Signature). params_at ops op) g.stands.made.operations
    ∙ ap (params_at s.run.texts.ops) same ∙ sym (task_params s.run n t g.called)

-- ---- the entry

some_or : (b : Bool) → b || true ≡ true
some_or true = refl
some_or false = refl

none_or : (b : Bool) → b || (false || false) ≡ b
none_or true = refl
none_or false = refl

done_push : (es : List Entry) (n op : ℕ) (os : List OutNote) (m : ℕ)
    → has_done (es ++ made.Done n op os ∷ []) m ≡ has_done es m || (m == n || false)
done_push es n op os m = ap (list_any (λ i. m == i)) (dones_push es (made.Done n op os))
    ∙ list_any-append (λ i. m == i) (dones es) (n ∷ [])

pub marks_done : (store store_new : StoreState) (n : ℕ) (notes : List OutNote)
    → AddsDone n notes store store_new → MarksDone n store.entries store_new.entries
marks_done store store_new n notes adds = record {
  here = ap (λ (st : StoreState). has_done st.entries n) adds.is
      ∙ done_push store.entries n adds.op notes n
      ∙ ap (λ (b : Bool). has_done store.entries n || (b || false)) (eq-eqb n n refl)
      ∙ some_or (has_done store.entries n);
  others = λ m apart.
      ap (λ (st : StoreState). has_done st.entries m) adds.is
      ∙ done_push store.entries n adds.op notes m ∙ not_here m apart;
}
  where
    not_here : (m : ℕ) → n ≢ m
        → has_done store.entries m || (m == n || false) ≡ has_done store.entries m
    not_here m apart = elim (eqb_tells m n) [
      | inl same ↦ absurd (apart (sym same.1))
      | inr other ↦ ap (λ (b : Bool). has_done store.entries m || (b || false)) other.0
          ∙ none_or (has_done store.entries m)
    ]

pub still_running : (store store_new : StoreState) (n : ℕ) (notes : List OutNote)
    → AddsDone n notes store store_new → stage_of store.entries ≡ stages.Running
    → stage_of store_new.entries ≡ stages.Running
still_running store store_new n notes adds running =
    ap (λ (st : StoreState). stage_of st.entries) adds.is
    ∙ stage_after store.entries (made.Done n adds.op notes) stages.Running running

-- ---- what reads

main_not_log : (k : ℕ) → main_name k ≢ log_name
unfolding main_name log_name
main_not_log k e =
    let at = ap (λ (l : List ℕ). get_or l 4 0) e in
    let same : 109 ≡ 108 = at in omega (arith, same)

main_not_out : (k n place : ℕ) → main_name k ≢ out_name n place
unfolding main_name out_name
main_not_out k n place e =
    let at = ap (λ (l : List ℕ). get_or l 4 0) e in
    let same : 109 ≡ 111 = at in omega (arith, same)

pub same_mains : (n : ℕ) (fs : List PlacedFile) (f g : Folder)
    → KeepsOthers (log_name ∷ file_names n fs) f g → SameMains f g
same_mains n fs f g others k = others.each (main_name k)
    (main_not_log k, outside_files n fs (main_name k) (λ place. main_not_out k n place))

-- ---- the call

-- the entry that is added, and the files that are put
abbrev pub entry_of : Core → (n op : ℕ) → List Value → Entry
entry_of core n op outs =
    done_entry n op (params_at (talking core.main).interface.ops op) outs

abbrev pub files_of : Core → (op : ℕ) → List Value → List PlacedFile
files_of core op outs = files_in (placed (params_at (talking core.main).interface.ops op) outs)

-- answers
abbrev pub kept_notes : List OutNote → Result (List OutNote) StoreErr
kept_notes notes = Ok notes

abbrev pub not_kept : StoreErr → Result (List OutNote) StoreErr
not_kept failure = Err failure

abbrev pub given_notes : List OutNote → Result (List OutNote) Halt
given_notes notes = Ok notes

abbrev pub no_notes : Halt → Result (List OutNote) Halt
no_notes e = Err e

-- the operations that the core tells are those of its program
pub notes_are : (core : Core) (i : Idl) (s : Setup) (n op : ℕ) (t : Task) (outs : List Value)
    (notes : List OutNote) → i ≡ (talking core.main).interface → TellsOp core n op
    → notes ≡ outs_noted 1 (params_at i.ops op) outs → HasGiven core s n t outs
    → notes ≡ outs_noted 1 t.params outs
notes_are core i s n op t outs notes same tells is g =
    subst (λ (ps : List Param). notes ≡ outs_noted 1 ps outs)
    (params_are core s n t outs op g (op_is core s n t outs op tells g))
    (subst (λ (x : Idl). notes ≡ outs_noted 1 (params_at x.ops op) outs) same is)

pub entry_is : (core : Core) (i : Idl) (store store_new : StoreState) (n op : ℕ)
    (outs : List Value) → i ≡ (talking core.main).interface
    → store_new ≡ with_entry store (done_entry n op (params_at i.ops op) outs)
    → store_new ≡ with_entry store (entry_of core n op outs)
entry_is core i store store_new n op outs same is =
    subst (λ (x : Idl). store_new ≡ with_entry store (done_entry n op (params_at x.ops op) outs))
    same is

pub outputs_are : (core : Core) (i : Idl) (store : StoreState) (n op : ℕ) (outs : List Value)
    (a b : DiskState) (r : Result (List OutNote) StoreErr) → i ≡ (talking core.main).interface
    → KeepsOutputs store (done_entry n op (params_at i.ops op) outs) n
    (files_in (placed (params_at i.ops op) outs)) a b r
    → KeepsOutputs store (entry_of core n op outs) n (files_of core op outs) a b r
outputs_are core i store n op outs a b r same is =
    subst (λ (x : Idl). KeepsOutputs store (done_entry n op (params_at x.ops op) outs) n
    (files_in (placed (params_at x.ops op) outs)) a b r) same is

output_of_run : (o : Origin) (s : Setup) (n : ℕ) (t : Task) (outs : List Value)
    → s.run ≡ run_of o s.run.fuel → IsTask s.run n t → t.outs ≡ Some outs → IsOutput o n t outs
output_of_run o s n t outs run called gave = record {
  fuel = s.run.fuel;
  is = subst (λ (r : Run). IsTask r n t) run called;
  gave = gave;
}

rules_by : (core : Core) (o : Origin) (s : Setup) (n : ℕ) (t : Task) (outs : List Value)
    → s.run ≡ run_of o s.run.fuel → HasGiven core s n t outs → KeepRules o.given.ops
rules_by core o s n t outs run g =
    subst (λ (r : Run). KeepRules r.texts.ops) run g.stands.bears.tables.rules

-- what the task gave at the places of its operation was kept, or not
keeps_by : (core : Core) (store : StoreState) (n op : ℕ) (outs : List Value) (a b : DiskState)
    (r : Result (List OutNote) StoreErr) → TellsOp core n op
    → Leaves b b.folder → has_done store.entries n ≡ false
    → KeepsOutputs store (entry_of core n op outs) n (files_of core op outs) a b r
    → (o : Origin) (s : Setup) (t : Task)
    → s.run ≡ run_of o s.run.fuel → HasGiven core s n t outs → IsSteady store.entries a
    → IsRunning o a.folder store.entries
    → Stood o (store.entries ++ entry_of core n op outs ∷ [])
    (λ f. IsRunning o f (store.entries ++ entry_of core n op outs ∷ [])) a b r
keeps_by core store n op outs a b r tells reads undone told o s t run g steady running =
    let same = op_is core s n t outs op tells g in
    records o (rules_by core o s n t outs run g) store n op
    (params_at (talking core.main).interface.ops op) t outs a b r same
    (params_are core s n t outs op g same) reads
    (output_of_run o s n t outs run g.called g.gave) undone steady running told

pub kept_ok : (core : Core) (store store_new : StoreState) (n op : ℕ) (outs : List Value)
    (a b : DiskState) (notes : List OutNote) → TellsOp core n op → Leaves b b.folder
    → has_done store.entries n ≡ false → store_new ≡ with_entry store (entry_of core n op outs)
    → KeepsOutputs store (entry_of core n op outs) n (files_of core op outs) a b
    (kept_notes notes)
    → KeepsGiven core store.entries store_new.entries n outs a b (given_notes notes)
kept_ok core store store_new n op outs a b notes tells reads undone added told o s t run g steady
    running =
    let k = keeps_by core store n op outs a b (kept_notes notes) tells reads undone told o s t run g
    steady running in
    subst (λ (st : StoreState). Stood o st.entries (λ f. IsRunning o f st.entries) a b
    (given_notes notes)) (sym added)
    (record { always = k.always; steady = k.steady; holds = k.holds })

pub kept_err : (core : Core) (store store_new : StoreState) (n op : ℕ) (outs : List Value)
    (a b : DiskState) (failure : StoreErr) (e : Halt) → TellsOp core n op → Leaves b b.folder
    → has_done store.entries n ≡ false
    → KeepsOutputs store (entry_of core n op outs) n (files_of core op outs) a b
    (not_kept failure)
    → KeepsGiven core store.entries store_new.entries n outs a b (no_notes e)
kept_err core store store_new n op outs a b failure e tells reads undone told o s t run g steady
    running =
    let k = keeps_by core store n op outs a b (not_kept failure) tells reads undone told o s t run g
    steady running in
    record { always = k.always; steady = tt; holds = tt }

-- nothing was kept
pub keeps_none : (core : Core) (es : List Entry) (n : ℕ) (outs : List Value) (a : DiskState)
    (e : Halt) → KeepsGiven core es es n outs a a (no_notes e)
keeps_none core es n outs a e o s t run g steady running = record {
  always = always_started (Stands o) a
      (λ image left. image_runs o (rules_by core o s n t outs run g) es a.folder image
      (steady image left) running);
  steady = tt;
  holds = tt;
}
