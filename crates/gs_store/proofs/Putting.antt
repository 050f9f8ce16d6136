-- A version file that no entry names is written.
use Rattle.std.proofs.Common.{◌≡◌, ℕ, Bool, true, false, List, [], ◌∷◌, Result, Some, ⊎_elim, refl, ap, subst, ◌∙◌, eqb, eq-eqb}
use Rattle.std.specs.Prelude.{◌==◌, ◌||◌, is_some, OnOk}
use Rattle.std.specs.List.{list_any}
use Rattle.gs_types.specs.declared.note.Version.{Version}
use Rattle.gs_types.specs.declared.note.Version.TheVariants.{Out, Main}
use Rattle.gs_types.specs.declared.note.Note.{Note}
use Rattle.gs_types.specs.declared.note.Note.TheVariants.{File, Int, Str}
use Rattle.gs_types.specs.declared.note.OutNote.{OutNote}
use Rattle.gs_disk.specs.Folder.{DiskState, KeepsOthers}
use Rattle.gs_disk.specs.Moments.{Passes}
use Rattle.gs_disk.specs.Going.{always_started, always_goes_on}
use Rattle.gs_log.specs.Names.{mark_name}
use Rattle.gs_entries.specs.Order.{stage_by, later, stage_after, stage_of, dones, has_done}
use Rattle.gs_entries.specs.declared.entry.Entry.{Entry}
use Rattle.gs_entries.specs.declared.entry.Entry.TheVariants as made
use Rattle.gs_entries.specs.declared.entry.Stage.{Stage}
use Rattle.gs_entries.specs.declared.entry.Stage.TheVariants as stages
use Rattle.gs_store.specs.Names.{version_name, IsKept}
use Rattle.gs_store.specs.Apart.{mark_not_version}
use Rattle.gs_store.specs.Versions.{Kept, kept_at, outs_kept, Among, Named}
use Rattle.gs_store.specs.Keeps.{Keeps, keeps_unnamed}
use Rattle.gs_store.specs.Spans.{Stays, TouchesOnly}
use Rattle.gs_store.specs.State.{StoreState, IsDiskOf}
use Rattle.gs_store.specs.Told.{PutsVersion}
use Rattle.gs_store.specs.declared.err.StoreErr.{StoreErr}

stays : (es : List Entry) (v : Version) (a b : DiskState) → IsKept v → (Named v es → ⊥)
    → Passes (KeepsOthers (version_name v ∷ [])) a b → Stays es a b
stays es v a b kept unnamed passes base stands =
    always_goes_on (Keeps base es) (KeepsOthers (version_name v ∷ [])) a a b
    (always_started (Keeps base es) a stands) passes
    (λ f g left k step. keeps_unnamed base es v f g kept unnamed k step)

stays_disk : (store : StoreState) (v : Version) (a b : DiskState) → IsKept v
    → Passes (KeepsOthers (version_name v ∷ [])) a b → Stays store.entries a b
    → IsDiskOf store a → IsDiskOf store b
stays_disk store v a b kept passes stay disk = record {
  agreed = (disk.agreed.0, (stay disk.agreed.0 disk.agreed.1).now);
  mark = λ image left. let from = passes.now image left in
      ap is_some (from.2.each mark_name (mark_not_version v kept, tt)) ∙ disk.mark from.0 from.1;
}

puts_named : {T : Type 0} (r : Result T StoreErr) (store : StoreState) (v : Version)
    (bytes : List ℕ) (a b : DiskState) → IsKept v → (Named v store.entries → ⊥)
    → TouchesOnly (version_name v ∷ []) a b
    → OnOk r (b.folder (version_name v) ≡ Some bytes)
    → IsDiskOf store a → PutsVersion store v bytes a b r
puts_named r store v bytes a b kept unnamed touches put disk =
    let stay = stays store.entries v a b kept unnamed touches.images in
    record {
      any_moment = stay;
      put = put;
      others = touches.reads;
      disk = stays_disk store v a b kept touches.images stay disk;
    }

-- a file of this name was put
pub puts : {T : Type 0} (r : Result T StoreErr) (store : StoreState) (v : Version)
    (bytes name : List ℕ) (a b : DiskState) → IsKept v → (Named v store.entries → ⊥)
    → name ≡ version_name v → TouchesOnly (name ∷ []) a b
    → OnOk r (b.folder name ≡ Some bytes)
    → IsDiskOf store a → PutsVersion store v bytes a b r
puts r store v bytes name a b kept unnamed is touches put disk =
    puts_named r store v bytes a b kept unnamed
    (subst (λ (x : List ℕ). TouchesOnly (x ∷ []) a b) is touches)
    (subst (λ (x : List ℕ). OnOk r (b.folder x ≡ Some bytes)) is put) disk

-- ---- while a run goes on, only done entries name versions

-- past the running of a run
abbrev pub is_late : Stage → Bool
is_late stages.Fresh = false
is_late stages.Running = false
is_late stages.Gated = true
is_late stages.Closed = true

pub late_later : (s t : Stage) → is_late s ≡ true → is_late (later s t) ≡ true
late_later stages.Fresh t e = absurd cc
late_later stages.Running t e = absurd cc
late_later stages.Gated stages.Fresh e = refl
late_later stages.Gated stages.Running e = refl
late_later stages.Gated stages.Gated e = refl
late_later stages.Gated stages.Closed e = refl
late_later stages.Closed t e = refl

pub later_late : (s t : Stage) → is_late t ≡ true → is_late (later s t) ≡ true
later_late s stages.Fresh e = absurd cc
later_late s stages.Running e = absurd cc
later_late stages.Fresh stages.Gated e = refl
later_late stages.Running stages.Gated e = refl
later_late stages.Gated stages.Gated e = refl
later_late stages.Closed stages.Gated e = refl
later_late stages.Fresh stages.Closed e = refl
later_late stages.Running stages.Closed e = refl
later_late stages.Gated stages.Closed e = refl
later_late stages.Closed stages.Closed e = refl

pub stays_late : (s : Stage) (es : List Entry) → is_late s ≡ true
    → is_late (stage_after s es) ≡ true
stays_late s [] e = e
stays_late s (x ∷ es) e = stays_late (later s (stage_by x)) es (late_later s (stage_by x) e)

running_not_late : (t : Stage) → t ≡ stages.Running → is_late t ≡ true → ⊥
running_not_late t is late = let no : is_late t ≡ false = ap is_late is in absurd cc

out_same : (i j p q : ℕ) → Out i p ≡ Out j q → i ≡ j
out_same i j p q e = cc

out_at : (n m k p : ℕ) (v : Note) (more : List Kept) → (Among (Out n k) more → n ≡ m)
    → Among (Out n k) (kept_at m p v more) → n ≡ m
out_at n m k p (File len) more rest h = ⊎_elim (λ e. out_same n m k p e) rest h
out_at n m k p (Int v) more rest h = rest h
out_at n m k p (Str s) more rest h = rest h

among_outs : (n m k : ℕ) (os : List OutNote) → Among (Out n k) (outs_kept m os) → n ≡ m
among_outs n m k [] among = absurd among
among_outs n m k (o ∷ os) among =
    out_at n m k o.place o.v (outs_kept m os) (among_outs n m k os) among

main_at : (k m p : ℕ) (v : Note) (more : List Kept) → (Among (Main k) more → ⊥)
    → Among (Main k) (kept_at m p v more) → ⊥
main_at k m p (File len) more rest h = ⊎_elim (λ e. absurd cc) rest h
main_at k m p (Int v) more rest h = rest h
main_at k m p (Str s) more rest h = rest h

main_among_outs : (k m : ℕ) (os : List OutNote) → Among (Main k) (outs_kept m os) → ⊥
main_among_outs k m [] among = among
main_among_outs k m (o ∷ os) among =
    main_at k m o.place o.v (outs_kept m os) (main_among_outs k m os) among

or_false : (a b : Bool) → (a || b) ≡ false → (a ≡ false) × (b ≡ false)
or_false true b e = absurd cc
or_false false b e = (refl, e)

unnamed_at : (s : Stage) (n k : ℕ) (es : List Entry) → stage_after s es ≡ stages.Running
    → list_any (λ m. n == m) (dones es) ≡ false → Named (Out n k) es → ⊥
unnamed_at s n k [] run not_done named = named
unnamed_at s n k (made.Header t ∷ es) run not_done named =
    ⊎_elim (λ h. absurd h) (λ h. unnamed_at (later s stages.Running) n k es run not_done h)
    named
unnamed_at s n k (made.Done m op os ∷ es) run not_done named =
    let parts = or_false (eqb n m) (list_any (λ j. n == j) (dones es)) not_done in
    ⊎_elim (λ h. let same : eqb n m ≡ true = eq-eqb n m (among_outs n m k os h) in let other =
    parts.0 in absurd cc) (λ h. unnamed_at (later s stages.Running) n k es run parts.1 h) named
unnamed_at s n k (made.Gate g ∷ es) run not_done named =
    absurd (running_not_late _ run
    (stays_late (later s stages.Gated) es (later_late s stages.Gated refl)))
unnamed_at s n k (made.Closed ∷ es) run not_done named =
    absurd (running_not_late _ run
    (stays_late (later s stages.Closed) es (later_late s stages.Closed refl)))

-- what a task that isn't done gave isn't named yet
pub out_unnamed : (es : List Entry) (n k : ℕ) → stage_of es ≡ stages.Running
    → has_done es n ≡ false → Named (Out n k) es → ⊥
out_unnamed es n k run not_done named = unnamed_at stages.Fresh n k es run not_done named

main_unnamed_at : (s : Stage) (k : ℕ) (es : List Entry) → stage_after s es ≡ stages.Running
    → Named (Main k) es → ⊥
main_unnamed_at s k [] run named = named
main_unnamed_at s k (made.Header t ∷ es) run named =
    ⊎_elim (λ h. absurd h) (λ h. main_unnamed_at (later s stages.Running) k es run h) named
main_unnamed_at s k (made.Done m op os ∷ es) run named =
    ⊎_elim (λ h. main_among_outs k m os h)
    (λ h. main_unnamed_at (later s stages.Running) k es run h) named
main_unnamed_at s k (made.Gate g ∷ es) run named =
    absurd (running_not_late _ run
    (stays_late (later s stages.Gated) es (later_late s stages.Gated refl)))
main_unnamed_at s k (made.Closed ∷ es) run named =
    absurd (running_not_late _ run
    (stays_late (later s stages.Closed) es (later_late s stages.Closed refl)))

-- what the main program wrote isn't named yet
pub main_unnamed : (es : List Entry) (k : ℕ) → stage_of es ≡ stages.Running
    → Named (Main k) es → ⊥
main_unnamed es k run named = main_unnamed_at stages.Fresh k es run named
