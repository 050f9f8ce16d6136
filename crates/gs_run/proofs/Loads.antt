-- Stores that are loaded for a run, and why none is.
use Rattle.std.proofs.Common.{◌≡◌, ◌≢◌, ℕ, ◌≤◌, List, Option, Some, None, Result, Ok, Err, refl, sym, ◌∙◌, subst, inl, inr, arith}
use Rattle.std.specs.Prelude.{IsSomeAnd, is_some}
use Rattle.gs_types.specs.Counts.{Rises}
use Rattle.gs_disk.specs.Folder.{Folder, DiskState, Same}
use Rattle.gs_disk.specs.Moments.{EachNow, Passes}
use Rattle.gs_log.specs.Names.{mark_name}
use Rattle.gs_entries.specs.Order.{stage_of}
use Rattle.gs_entries.specs.declared.entry.Entry.{Entry}
use Rattle.gs_entries.specs.declared.entry.Stage.TheVariants as stages
use Rattle.gs_entries.specs.declared.entry.Texts.{Texts}
use Rattle.gs_store.specs.Keeps.{Keeps}
use Rattle.gs_store.specs.Loading.{IsStoreOf, IsLoaded, Refuses}
use Rattle.gs_store.specs.Ordered.{texts_of, HasEnded, DifferFirst}
use Rattle.gs_store.specs.State.{StoreState}
use Rattle.gs_store.specs.declared.err.StoreErr.{StoreErr}
use Rattle.gs_store.specs.declared.err.StoreErr.TheVariants.{BadLog, BadRecord, LostVersion, DiskFault, NoMemory}
use Rattle.gs_store.specs.declared.same.What.{What}
use Rattle.gs_run.specs.Judging.{JudgeTold}
use Rattle.gs_run.specs.Ready.{unready_of, IsOwn, IsOtherOf, IsUnread, Finds, MayRun, GoingTold, IsGoing, IsReady, IsUnready, UnreadyEnds, store_in}
use Rattle.gs_run.specs.Sources.{HasSources, SourcesTold}
use Rattle.gs_run.specs.declared.ready.Ready.{Ready}
use Rattle.gs_run.specs.declared.ready.Ready.TheVariants.{Ended, Going}
use Rattle.gs_run.specs.declared.refusal.Refusal.{Refusal}
use Rattle.gs_run.specs.declared.refusal.Refusal.TheVariants as refusal
use Rattle.gs_run.specs.declared.refusal.Unready.{Unready}
use Rattle.gs_run.specs.declared.refusal.Unready.TheVariants.{Text, Store, Other, Disk, Memory}

-- ---- a store is of other texts

kept_by : (o : Option Texts) (t : Texts) (what : What) → IsSomeAnd o (λ kept. DifferFirst what kept t)
    → (kept : Texts) × (o ≡ Some kept) × DifferFirst what kept t
kept_by (Some kept) t what h = (kept, refl, h)
kept_by None t what h = absurd h

pub other_of : (es : List Entry) (t : Texts) (what : What) → stage_of es ≢ stages.Fresh
    → IsSomeAnd (texts_of es) (λ kept. DifferFirst what kept t) → IsOtherOf es t what
other_of es t what begun differ =
    let k = kept_by (texts_of es) t what differ in
    record { begun = begun; kept = k.0; recorded = k.1; differ = k.2 }

-- ---- why no store is loaded

pub unread_load : (t : Texts) (f : Folder) (e : StoreErr) → Refuses f e → IsUnread t f (unready_of e)
unread_load t f (BadLog at) h = h
unread_load t f (BadRecord index) h = h
unread_load t f (LostVersion v kept found) h = h
unread_load t f DiskFault h = tt
unread_load t f NoMemory h = tt

-- ---- a loaded store stays as what follows reads

image_of : (P : Folder → Type 0) (s t : DiskState) → Passes Same s t → EachNow P s → EachNow P t
image_of P s t passes each image left =
    let from = passes.now image left in
    subst P (sym from.2.is) (each from.0 from.1)

pub loaded_later : (store : StoreState) (s t : DiskState) → IsLoaded s store → Passes Same s t
    → t.folder ≡ s.folder → IsLoaded t store
loaded_later store s t loaded passes same = record {
  found = subst (IsStoreOf store) (sym same) loaded.found;
  disk = record {
    agreed = (
      loaded.disk.agreed.0,
      image_of (Keeps loaded.disk.agreed.0 store.entries) s t passes loaded.disk.agreed.1,
    );
    mark = image_of (λ image. is_some (image mark_name) ≡ store.marked) s t passes loaded.disk.mark;
  };
  only = λ image left.
      let from = passes.now image left in from.2.is ∙ loaded.only from.0 from.1 ∙ sym same;
}

pub store_going : (t : Texts) (store : StoreState) (r : Ready) → IsGoing t store r
    → store_in r ≡ store
store_going t store (Ended s) is = absurd is
store_going t store (Going u s plan) is = is.1

-- ---- why no run is begun

pub unready_read : (f : Folder) (i p w : List ℕ) (t : Texts) (u : Unready) → HasSources f i p t
    → IsUnread t f u → IsUnready f i p w u
unready_read f i p w t (Text r) sources h = absurd h
unready_read f i p w t (Store why) sources h = ((t, sources), h)
unready_read f i p w t (Other what) sources h =
    record { texts = t; sources = sources; store = h.0; found = h.1; other = h.2 }
unready_read f i p w t Disk sources h = tt
unready_read f i p w t Memory sources h = tt

pub unready_sources : (f : Folder) (i p w : List ℕ) (r : Refusal) → SourcesTold f i p (Err r)
    → IsUnready f i p w (Text r)
unready_sources f i p w (refusal.NoText n) h = inl h
unready_sources f i p w (refusal.BadText n line k) h = inl h
unready_sources f i p w refusal.Disk h = tt
unready_sources f i p w refusal.Memory h = tt

unready_judged : (f : Folder) (i p w : List ℕ) (t : Texts) (r : Refusal) → MayRun f i p t
    → JudgeTold t (f w) i p w (Err r) → IsUnready f i p w (Text r)
unready_judged f i p w t (refusal.NoText n) may h = inr ((t, may), h.0, h.1)
unready_judged f i p w t (refusal.BadText n line k) may h = inr (t, may, h)
unready_judged f i p w t refusal.Disk may h = tt
unready_judged f i p w t refusal.Memory may h = tt

-- a run that may begin or go on
pub may_run : (f : Folder) (i p : List ℕ) (t : Texts) (store : StoreState) → HasSources f i p t
    → IsStoreOf store f → IsOwn store.entries t → (HasEnded (stage_of store.entries) → ⊥)
    → MayRun f i p t
may_run f i p t store sources found own goes_on = record {
  store = store;
  finds = record { sources = sources; found = found; own = own };
  goes_on = goes_on;
}

pub unready_going : (f : Folder) (i p w : List ℕ) (t : Texts) (u : Unready) → MayRun f i p t
    → GoingTold t (f w) i p w (Err u) → IsUnready f i p w u
unready_going f i p w t (Text r) may h = unready_judged f i p w t r may h
unready_going f i p w t (Store why) may h = absurd h
unready_going f i p w t (Other what) may h = absurd h
unready_going f i p w t Disk may h = tt
unready_going f i p w t Memory may h = tt

pub ready_going : (f : Folder) (i p w : List ℕ) (t : Texts) (store : StoreState) (r : Ready)
    → HasSources f i p t → IsStoreOf store f → IsOwn store.entries t
    → (HasEnded (stage_of store.entries) → ⊥) → IsGoing t store r
    → GoingTold t (f w) i p w (Ok r) → IsReady f i p w r
ready_going f i p w t store (Ended s) sources found own goes_on is h = absurd is
ready_going f i p w t store (Going u s plan) sources found own goes_on is h =
    subst (λ (x : StoreState). Finds f i p u x × (HasEnded (stage_of x.entries) → ⊥)
    × JudgeTold u (f w) i p w (Ok plan)) (sym is.1)
    (subst (λ (x : Texts). Finds f i p x store × (HasEnded (stage_of store.entries) → ⊥)
    × JudgeTold x (f w) i p w (Ok plan)) (sym is.0)
    (record { sources = sources; found = found; own = own }, goes_on, h))

-- ---- counts

more_rises : (old mid new : ℕ) → old ≤ mid → Rises mid new → Rises old new
more_rises old mid new le r = omega arith

pub ends_later : {T : Type 0} (old mid new : ℕ) (u : Result T Unready) → old ≤ mid
    → UnreadyEnds mid new u → UnreadyEnds old new u
ends_later old mid new (Ok x) le h = tt
ends_later old mid new (Err (Text (refusal.NoText n))) le h = tt
ends_later old mid new (Err (Text (refusal.BadText n line k))) le h = tt
ends_later old mid new (Err (Text refusal.Disk)) le h = more_rises old mid new le h
ends_later old mid new (Err (Text refusal.Memory)) le h = tt
ends_later old mid new (Err (Store why)) le h = tt
ends_later old mid new (Err (Other what)) le h = tt
ends_later old mid new (Err Disk) le h = more_rises old mid new le h
ends_later old mid new (Err Memory) le h = tt
