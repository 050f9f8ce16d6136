-- What a removal did, by where it stopped.
use Rattle.std.proofs.Common.{◌≡◌, inl, sym, subst, ap, ◌∙◌, refl, arith, ℕ, ◌≤◌, List, Result, Ok, Err}
use Rattle.std.specs.Prelude.{is_some}
use Rattle.gs_types.specs.Counts.{Rises}
use Rattle.gs_disk.specs.Folder.{Folder, DiskState, Same, HasCause}
use Rattle.gs_disk.specs.declared.disk.DiskErr.{DiskErr}
use Rattle.gs_disk.specs.declared.disk.DiskErr.TheVariants as disks
use Rattle.gs_disk.specs.Moments.{EachNow, Passes, Always}
use Rattle.gs_disk.specs.Going.{goes_on, always_started, always_same, always_then}
use Rattle.gs_log.specs.Names.{mark_name}
use Rattle.gs_back.specs.Clean.{KeepsUnstored, AgreesOnMark, KeepsOrUnmarked, Cleans}
use Rattle.gs_entries.specs.declared.entry.Entry.{Entry}
use Rattle.gs_entries.specs.declared.entry.Stage.{Stage}
use Rattle.gs_entries.specs.declared.entry.Stage.TheVariants as stages
use Rattle.gs_entries.specs.Order.{stage_of}
use Rattle.gs_store.specs.Keeps.{Base, Keeps}
use Rattle.gs_store.specs.State.{StoreState}
use Rattle.gs_store.specs.Loading.{IsStoreOf}
use Rattle.gs_verbs.specs.Finding.{IsBad}
use Rattle.gs_verbs.specs.Cleaning.{stop_of_disk, HasGated, Removed, RanClean}
use Rattle.gs_verbs.specs.declared.stops.BadStore.{BadStore}
use Rattle.gs_verbs.specs.declared.stops.CleanStop.{CleanStop}
use Rattle.gs_verbs.specs.declared.stops.CleanStop.TheVariants.{Gated, Disk, Memory}
use Rattle.gs_verbs.proofs.Stores.{has_one, has_no_bad}

-- ---- whether the store is gated

-- a folder whose store isn't gated
pub not_gated : (now old : Folder) (store : StoreState) (s : Stage) → now ≡ old
    → IsStoreOf store now → s ≡ stage_of store.entries → (s ≡ stages.Gated → ⊥)
    → HasGated old → ⊥
not_gated now old store s same found is other gated =
    let here : IsStoreOf store old = subst (IsStoreOf store) same found in
    let entries = has_one old store gated.store here gated.found in
    other (is ∙ ap stage_of entries ∙ gated.stage)

-- one that has none
pub none_gated : (now old : Folder) (bad : BadStore) → now ≡ old → IsBad now bad → HasGated old → ⊥
none_gated now old bad same why gated =
    has_no_bad old gated.store bad gated.found (subst (λ (f : Folder). IsBad f bad) same why)

-- ---- a call that changes nothing before one that cleans

same_agrees : (a b : DiskState) → Passes Same a b → b.folder ≡ a.folder → AgreesOnMark a
    → AgreesOnMark b
same_agrees a b passes same agrees image left =
    let from = passes.now image left in
    ap (λ (f : Folder). is_some (f mark_name)) from.2.is ∙ agrees from.0 from.1
    ∙ ap (λ (f : Folder). is_some (f mark_name)) (sym same)

same_keeps : (base : Base) (es : List Entry) (a b : DiskState) → Passes Same a b
    → EachNow (Keeps base es) a → EachNow (Keeps base es) b
same_keeps base es a b passes keeps image left =
    let from = passes.now image left in
    subst (Keeps base es) (sym from.2.is) (keeps from.0 from.1)

-- what is kept goes through a call that changes nothing
always_from : (P : Folder → Type 0) (a b : DiskState) → EachNow P a → Passes Same a b
    → Always P a b
always_from P a b stands passes = always_same P a a b (always_started P a stands) passes

unstored_same : (f g : Folder) → g ≡ f → KeepsUnstored f g
unstored_same f g same = record { each = λ x own. ap (λ (h : Folder). h x) same }

unstored_then : (f g h : Folder) → g ≡ f → KeepsUnstored g h → KeepsUnstored f h
unstored_then f g h same k = record {
  each = λ x own. k.each x own ∙ ap (λ (l : Folder). l x) same;
}

pub cleans_then : {T E : Type 0} (a b c : DiskState) (r : Result T E) → Passes Same a b
    → b.folder ≡ a.folder → Cleans b c r → Cleans a c r
cleans_then a b c r passes same cleans = record {
  any_moment = λ agrees base es keeps.
      always_then (KeepsOrUnmarked base es) a b c
      (always_from (KeepsOrUnmarked base es) a b (λ image left. inl (keeps image left)) passes)
      (cleans.any_moment (same_agrees a b passes same agrees) base es
      (same_keeps base es a b passes keeps));
  gone = cleans.gone;
  only = cleans.only;
  others = unstored_then a.folder b.folder c.folder same cleans.others;
  images = goes_on Same KeepsUnstored KeepsUnstored a b c passes cleans.images
      (λ f g s. unstored_same f g s.is)
      (λ f g h left s k. unstored_then f g h s.is k);
}

-- ---- the whole

rises_more : (old mid new : ℕ) → old ≤ mid → Rises mid new → Rises old new
rises_more old mid new le r = omega arith

pub ran_removed : (told : Type 0) (a b c : DiskState) (r : Result Unit CleanStop)
    → a.faults ≤ b.faults → (told → HasGated a.folder → ⊥) → (told → b.folder ≡ a.folder)
    → (told → Passes Same a b) → Removed told b c r → RanClean told a c r
ran_removed told a b c (Ok done) le free same images removed = record {
  cause = tt;
  judged = free;
  cleans = λ t. cleans_then a b c (Ok done) (images t) (same t) (removed.cleans t);
}
ran_removed told a b c (Err Gated) le free same images removed = absurd (removed.ungated refl)
ran_removed told a b c (Err Disk) le free same images removed = record {
  cause = rises_more a.faults b.faults c.faults le removed.cause;
  judged = λ t. tt;
  cleans = λ t. cleans_then a b c (Err Disk) (images t) (same t) (removed.cleans t);
}
ran_removed told a b c (Err Memory) le free same images removed = record {
  cause = tt;
  judged = λ t. tt;
  cleans = λ t. cleans_then a b c (Err Memory) (images t) (same t) (removed.cleans t);
}

-- ---- the removal itself

pub removed_ok : (told : Type 0) (a b : DiskState)
    → (told → Cleans {T = Unit {0}} {E = DiskErr} a b (Ok tt)) → Removed told a b (Ok tt)
removed_ok told a b cleans = record {
  cause = tt;
  ungated = λ e. absurd cc;
  cleans = λ t. let k = cleans t in record {
    any_moment = k.any_moment;
    gone = k.gone;
    only = k.only;
    others = k.others;
    images = k.images;
  };
}

pub removed_err : (told : Type 0) (a b : DiskState) (e : DiskErr) (s : CleanStop)
    → s ≡ stop_of_disk e → HasCause {T = Unit {0}} a b (Err e)
    → (told → Cleans {T = Unit {0}} {E = DiskErr} a b (Err e)) → Removed told a b (Err s)
removed_err told a b e s is cause cleans =
    subst (λ (x : CleanStop). Removed told a b (Err x)) (sym is) (plain e cause cleans)
  where
    plain : (x : DiskErr) → HasCause {T = Unit {0}} a b (Err x)
        → (told → Cleans {T = Unit {0}} {E = DiskErr} a b (Err x))
        → Removed told a b (Err (stop_of_disk x))
    plain disks.Fault cause cleans = record {
      cause = cause.faults.cause refl;
      ungated = λ e. absurd cc;
      cleans = λ t. let k = cleans t in record {
        any_moment = k.any_moment;
        gone = tt;
        only = tt;
        others = k.others;
        images = k.images;
      };
    }
    plain disks.Memory cause cleans = record {
      cause = tt;
      ungated = λ e. absurd cc;
      cleans = λ t. let k = cleans t in record {
        any_moment = k.any_moment;
        gone = tt;
        only = tt;
        others = k.others;
        images = k.images;
      };
    }
