-- What the program did and left, where all is joined and it has ended.
use Rattle.std.proofs.Common.{◌≡◌, ℕ, zero, suc, ◌<◌, true, List, [], ◌∷◌, ◌++◌, length, get_or, Option, Some, None, Result, Ok, refl, sym, subst, arith}
use Rattle.std.specs.Prelude.{All, slice_index_or}
use Rattle.gs_types.specs.Job.{Meaning}
use Rattle.gs_types.specs.History.{History}
use Rattle.gs_types.specs.declared.note.Version.{Version}
use Rattle.gs_types.specs.declared.note.Version.TheVariants.{Original, Out, Main}
use Rattle.gs_types.specs.declared.note.FinalNote.{FinalNote}
use Rattle.gs_disk.specs.Folder.{DiskState}
use Rattle.gs_disk.specs.Moments.{Leaves}
use Rattle.gs_entries.specs.Entries.{entry}
use Rattle.gs_entries.specs.Order.{stage_of}
use Rattle.gs_entries.specs.declared.entry.Entry.{Entry}
use Rattle.gs_entries.specs.declared.entry.Entry.TheVariants as made
use Rattle.gs_entries.specs.declared.entry.GateNote.{GateNote}
use Rattle.gs_entries.specs.declared.entry.Stage.TheVariants as stages
use Rattle.gs_store.specs.Names.{IsKept}
use Rattle.gs_store.specs.State.{StoreState}
use Rattle.gs_store.specs.Told.{AddsEntry}
use Rattle.gs_store.specs.Versions.{AllStand, finals_kept}
use Rattle.gs_store.specs.declared.err.StoreErr.{StoreErr}
use Rattle.gs_back.proofs.Fitting.{is_gate, is_final}
use Rattle.gs_site.specs.Link.{Flying}
use Rattle.gs_talk.specs.Seq.{Files, World, Known, Task, output_of, task_at}
use Rattle.gs_talk.specs.declared.question.Question.TheVariants.{End}
use Rattle.gs_talk_laws.specs.Versions.{version_value, left_by, writings}
use Rattle.gs_talk_laws.proofs.Lists.{get_within}
use Rattle.gs_history.specs.Setup.{world_at, count_at}
use Rattle.gs_history.specs.Frontier.{AllDone, IsThere}
use Rattle.gs_history.proofs.Ending.{stopped_is_ended}
use Rattle.gs_history.proofs.Fitting.{notes_fit}
use Rattle.gs_tables.specs.Gate.{written_names}
use Rattle.gs_core.specs.Core.{IsVerdict}
use Rattle.gs_core.specs.Gate.{IsGate}
use Rattle.gs_core.specs.declared.verdict.Verdict.TheVariants as verdict
use Rattle.gs_life.specs.Origin.{Origin}
use Rattle.gs_life.specs.Called.{StandsFor, Stood}
use Rattle.gs_life.specs.Stands.{IsHeld, IsGateOf, IsRunning, IsGated, StandsAt}
use Rattle.gs_life.proofs.Calls.{gates}
use Rattle.gs_finish.specs.declared.halt.Halt.{Halt}
use Rattle.gs_engine.specs.Joined.{Course, Moment, Joined}
use Rattle.gs_engine.specs.Reading.{IsOwn}
use Rattle.gs_engine.proofs.Due.{versions_stand}
use Rattle.gs_engine.proofs.Standing.{rules_of}
use Rattle.gs_engine.proofs.SealingFinals.{AreKept, held_stand}
use Rattle.gs_engine.proofs.BeginningWords.{done, halt}

-- ---- the finals' versions

own_kept : (v : Version) → IsKept v → IsOwn v
own_kept (Original x) kept = absurd kept
own_kept (Out n place) kept = tt
own_kept (Main k) kept = tt

called_by : (o : Option Task) (place : ℕ) (bytes : List ℕ)
    → left_by (output_of o place) ≡ Some (Known bytes) → (t : Task) × (o ≡ Some t)
called_by (Some t) place bytes is = (t, refl)
called_by None place bytes is = absurd cc

task_there : (h : History) (tasks : List Task) (n : ℕ) (t : Task) → AllDone h (length tasks)
    → task_at tasks n ≡ Some t → IsThere h (Out n 0)
task_there h tasks zero t all at = absurd cc
task_there h tasks (suc m) t all at = all m (get_within tasks m t at)

-- what holds something, where each task is done, is there
there_all : (first : Files) (w : World) (h : History) (v : Version) (bytes : List ℕ)
    → AllDone h (length w.tasks) → version_value first w v ≡ Some (Known bytes) → IsThere h v
there_all first w h (Original x) bytes all is = tt
there_all first w h (Out n place) bytes all is =
    let t = called_by (task_at w.tasks n) place bytes is in
    task_there h w.tasks n t.0 all t.1
there_all first w h (Main k) bytes all is = tt

default_same : (fs : List FinalNote) (i : ℕ) (d e : FinalNote) → i < length fs
    → slice_index_or fs i d ≡ get_or fs i e
default_same [] i d e lt = absurd (omega (arith, lt))
default_same (f ∷ fs) zero d e lt = refl
default_same (f ∷ fs) (suc i) d e lt = default_same fs i d e (omega (arith, lt))

final_kept : (g : GateNote) → entry.fits (made.Gate g) ≡ true → (i : ℕ) (d : FinalNote)
    → i < length g.finals → IsKept (slice_index_or g.finals i d).version
final_kept g fits i d lt =
    let f = slice_index_or g.finals i d in
    (is_final g i f (is_gate g fits) lt (default_same g.finals i d f lt)).kept

are_kept : (fs : List FinalNote)
    → ((i : ℕ) (d : FinalNote) → i < length fs → IsKept (slice_index_or fs i d).version)
    → AreKept fs
are_kept [] each = tt
are_kept (f ∷ fs) each =
    (each 0 f (omega arith), are_kept fs (λ i d lt. each (suc i) d (omega (arith, lt))))

-- the versions of what may be recorded are ones that are kept
pub gate_keeps : (g : GateNote) → entry.fits (made.Gate g) ≡ true → AreKept g.finals
gate_keeps g fits = are_kept g.finals (final_kept g fits)

-- ---- the gate is recorded

abbrev pub gated : Result (Unit {0}) StoreErr
gated = Ok tt

running_for : (o : Origin) (es : List Entry) (s : DiskState) → stage_of es ≡ stages.Running
    → StandsFor o es s → IsRunning o s.folder es
running_for o es s is for = subst (StandsAt o s.folder es) is for.stands

gate_stood : {T : Type 0} (o : Origin) (store : StoreState) (g : GateNote) (a b : DiskState)
    (r : Result T StoreErr) → stage_of store.entries ≡ stages.Running → Leaves b b.folder
    → entry.fits (made.Gate g) ≡ true → AddsEntry store (made.Gate g) a b r
    → StandsFor o store.entries a → IsGateOf o a.folder g
    → Stood o (store.entries ++ made.Gate g ∷ [])
    (λ f. IsGated o f (store.entries ++ made.Gate g ∷ [])) a b r
gate_stood o store g a b r running reads fits adds for gate =
    gates o for.rules store g a b r reads fits gate for.steady
    (running_for o store.entries a running for) adds

pub gate_recorded : (o : Origin) (store : StoreState) (g : GateNote) (a b : DiskState)
    → stage_of store.entries ≡ stages.Running → Leaves b b.folder
    → entry.fits (made.Gate g) ≡ true → AddsEntry store (made.Gate g) a b gated
    → StandsFor o store.entries a → IsGateOf o a.folder g
    → Stood o (store.entries ++ made.Gate g ∷ [])
    (λ f. IsGated o f (store.entries ++ made.Gate g ∷ [])) a b done
gate_recorded o store g a b running reads fits adds for gate =
    let s = gate_stood o store g a b gated running reads fits adds for gate in
    record { always = s.always; steady = s.steady; holds = s.holds }

pub gate_halts : (o : Origin) (store : StoreState) (g : GateNote) (a b : DiskState)
    (r : Result (Unit {0}) StoreErr) (e : Halt) → stage_of store.entries ≡ stages.Running
    → Leaves b b.folder → entry.fits (made.Gate g) ≡ true
    → AddsEntry store (made.Gate g) a b r → StandsFor o store.entries a
    → IsGateOf o a.folder g
    → Stood o (store.entries ++ made.Gate g ∷ [])
    (λ f. IsGated o f (store.entries ++ made.Gate g ∷ [])) a b (halt e)
gate_halts o store g a b r e running reads fits adds for gate =
    let s = gate_stood o store g a b r running reads fits adds for gate in
    record { always = s.always; steady = tt; holds = tt }

module _ {D K : Type 0} {state : D → DiskState} {tells : K → History → Type 0} {jobs : K → Flying}
    {law : K → Meaning} {c : Course} where
  -- ---- what holds where all is joined

  pub joined_for : {at : Moment D K} {k : ℕ} {h : History} → Joined state tells jobs law c at k h
      → StandsFor c.origin at.store.entries (state at.disk)
  joined_for {at} j = record {
    rules = rules_of j;
    steady = j.steady;
    stands = subst (StandsAt c.origin (state at.disk).folder at.store.entries)
        (sym j.running.stage) j.running;
  }

  finals_held : {at : Moment D K} {k : ℕ} {h : History} → (g : GateNote)
      → Joined state tells jobs law c at k h → entry.fits (made.Gate g) ≡ true
      → AllDone (h ++ c.noted) (count_at c.setup k)
      → All (IsHeld c.setup k (state at.disk).folder) g.finals
  finals_held {k = k} {h = h} g j fits all i d lt bytes is =
      let v = (slice_index_or g.finals i d).version in
      versions_stand j v bytes (own_kept v (final_kept g fits i d lt))
      (there_all c.setup.run.files (world_at c.setup k) (h ++ c.noted) v bytes all is) is

  pub joined_gate : {at : Moment D K} {k : ℕ} {h : History} → (g : GateNote)
      → Joined state tells jobs law c at k h → entry.fits (made.Gate g) ≡ true
      → IsVerdict c.setup k (h ++ c.noted) verdict.Ended → IsGate c.setup k g
      → IsGateOf c.origin (state at.disk).folder g
  joined_gate {at = at} {k = k} {h = h} g j fits ended says = record {
    setup = c.setup;
    run_is = c.run_is;
    questions = k;
    ends = stopped_is_ended c.setup k (h ++ c.noted) End j.stands.bears.tables.good
        (notes_fit c.setup k j.stands.bears.tables.fit) ended.2;
    says = says;
    held = finals_held g j fits ended.2.done;
  }

  -- the files of the finals' versions stand
  pub joined_stand : {at : Moment D K} {k : ℕ} {h : History} → (g : GateNote)
      → Joined state tells jobs law c at k h → entry.fits (made.Gate g) ≡ true
      → IsVerdict c.setup k (h ++ c.noted) verdict.Ended → IsGate c.setup k g
      → AllStand (state at.disk).folder (finals_kept g.finals)
  joined_stand {at = at} {k = k} {h = h} g j fits ended says =
      held_stand c.setup k g.names (written_names (writings c.setup.run k)) g.finals
      (state at.disk).folder says.gated.finals_are (finals_held g j fits ended.2.done)
