-- The record that a call begins with.
use Rattle.std.proofs.Common.{◌≡◌, true, List, [], ◌∷◌, Result, Ok, sym, ap, subst}
use Rattle.gs_disk.specs.Folder.{DiskState}
use Rattle.gs_disk.specs.Moments.{Leaves}
use Rattle.gs_disk.specs.Going.{always_started}
use Rattle.gs_entries.specs.Entries.{entry}
use Rattle.gs_entries.specs.Order.{stage_of}
use Rattle.gs_entries.specs.declared.entry.Entry.{Entry}
use Rattle.gs_entries.specs.declared.entry.Entry.TheVariants as made
use Rattle.gs_entries.specs.declared.entry.Stage.{Stage}
use Rattle.gs_entries.specs.declared.entry.Stage.TheVariants as stages
use Rattle.gs_entries.specs.declared.entry.Texts.{Texts}
use Rattle.gs_store.specs.State.{StoreState, no_entries, with_entry}
use Rattle.gs_store.specs.Told.{BeginsEntry}
use Rattle.gs_store.specs.declared.err.StoreErr.{StoreErr}
use Rattle.gs_store.proofs.Beginning.{none_if_fresh}
use Rattle.gs_finish.specs.declared.halt.Halt.{Halt}
use Rattle.gs_life.specs.Origin.{Origin}
use Rattle.gs_life.specs.Standing.{IsSteady}
use Rattle.gs_life.specs.Called.{StandsFor, Stood}
use Rattle.gs_life.specs.Stands.{IsRunning, Stands, StandsAt}
use Rattle.gs_life.proofs.Calls.{begins, each_stands}
use Rattle.gs_engine.specs.Beginning.{notes_in}
use Rattle.gs_engine.proofs.BeginningWords.{done, halt}

-- nothing is noted where nothing is recorded, and by the texts
pub no_notes : (es : List Entry) (t : Texts) → stage_of es ≡ stages.Fresh
    → notes_in 0 (made.Header t ∷ []) ≡ notes_in 0 es
no_notes es t fresh = sym (ap (notes_in 0) (none_if_fresh es fresh))

-- ---- a fresh record gets its texts

abbrev began : Result (Unit {0}) StoreErr
began = Ok tt

fresh_begins : {T : Type 0} (o : Origin) (es : List Entry) (t : Texts) (a b : DiskState)
    (r : Result T StoreErr) → stage_of es ≡ stages.Fresh → Leaves b b.folder
    → entry.fits (made.Header t) ≡ true → o.texts ≡ t → StandsFor o es a
    → BeginsEntry (made.Header t) a b r
    → Stood o (made.Header t ∷ []) (λ f. IsRunning o f (made.Header t ∷ [])) a b r
fresh_begins {T} o es t a b r fresh reads fits texts for told =
    let at : StandsAt o a.folder es stages.Fresh =
    subst (λ (s : Stage). StandsAt o a.folder es s) fresh for.stands in
    let steady : IsSteady [] a = subst (λ (l : List Entry). IsSteady l a) at.0 for.steady in
    subst (λ (u : Texts). entry.fits (made.Header u) ≡ true → BeginsEntry (made.Header u) a b r
    → Stood o (made.Header u ∷ []) (λ f. IsRunning o f (made.Header u ∷ [])) a b r) texts
    (λ fit begun. begins o a b r reads fit steady at.1 begun) fits told

-- it was begun
pub store_begins : (o : Origin) (store store_new : StoreState) (t : Texts) (a b : DiskState)
    → stage_of store.entries ≡ stages.Fresh → Leaves b b.folder
    → entry.fits (made.Header t) ≡ true → store_new ≡ with_entry no_entries (made.Header t)
    → BeginsEntry (made.Header t) a b began → o.texts ≡ t → StandsFor o store.entries a
    → Stood o store_new.entries (λ f. IsRunning o f store_new.entries) a b done
store_begins o store store_new t a b fresh reads fits is told texts for =
    let s = fresh_begins o store.entries t a b began fresh reads fits texts for told in
    subst (λ (st : StoreState). Stood o st.entries (λ f. IsRunning o f st.entries) a b done)
    (sym is) (record { always = s.always; steady = s.steady; holds = s.holds })

-- it was not
pub store_halts : (o : Origin) (store store_new : StoreState) (t : Texts) (a b : DiskState)
    (r : Result (Unit {0}) StoreErr) (e : Halt) → stage_of store.entries ≡ stages.Fresh
    → Leaves b b.folder → entry.fits (made.Header t) ≡ true
    → BeginsEntry (made.Header t) a b r → o.texts ≡ t → StandsFor o store.entries a
    → Stood o store_new.entries (λ f. IsRunning o f store_new.entries) a b (halt e)
store_halts o store store_new t a b r e fresh reads fits told texts for =
    let s = fresh_begins o store.entries t a b r fresh reads fits texts for told in
    record { always = s.always; steady = tt; holds = tt }

-- ---- one of a run that goes on stays

pub store_stays : (o : Origin) (store : StoreState) (a : DiskState)
    → stage_of store.entries ≡ stages.Running → StandsFor o store.entries a
    → Stood o store.entries (λ f. IsRunning o f store.entries) a a done
store_stays o store a running for = record {
  always = always_started (Stands o) a (each_stands o store.entries a for);
  steady = for.steady;
  holds = subst (λ (s : Stage). StandsAt o a.folder store.entries s) running for.stands;
}
