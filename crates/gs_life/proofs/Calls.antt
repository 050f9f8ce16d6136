-- Calls that begin a record, gate it, bring its results back and close it, over a disk that stands.
use Rattle.std.proofs.Common.{◌≡◌, ℕ, true, List, [], ◌∷◌, ◌++◌, Option, Result, Ok, Err, refl, sym, ap, subst, ◌∙◌, inl, inr}
use Rattle.std.specs.Prelude.{OnOk}
use Rattle.gs_idl.specs.Interface.{KeepRules}
use Rattle.gs_disk.specs.Folder.{Folder, DiskState, Outside, KeepsOthers}
use Rattle.gs_disk.specs.Moments.{Leaves, EachNow}
use Rattle.gs_disk.specs.Going.{AreAmong, always_wider}
use Rattle.gs_entries.specs.Entries.{entry}
use Rattle.gs_entries.specs.declared.entry.Entry.{Entry}
use Rattle.gs_entries.specs.declared.entry.Entry.TheVariants as made
use Rattle.gs_entries.specs.declared.entry.GateNote.{GateNote}
use Rattle.gs_entries.specs.declared.entry.Stage.{Stage}
use Rattle.gs_entries.specs.declared.entry.Stage.TheVariants as stages
use Rattle.gs_store.specs.Keeps.{HasEntries, Keeps, KeepsEither}
use Rattle.gs_store.specs.Loading.{IsLoaded}
use Rattle.gs_store.specs.Spans.{Stand, keeps_as_read}
use Rattle.gs_store.specs.State.{StoreState}
use Rattle.gs_store.specs.Told.{AddsEntry, BeginsEntry}
use Rattle.gs_store.specs.declared.err.StoreErr.{StoreErr}
use Rattle.gs_store.proofs.Following.{gate_follows, closed_follows, closed_fits}
use Rattle.gs_entries.specs.Order.{stage_of}
use Rattle.gs_back.specs.Finals.{finals_of, finals_at, names_of, AreSet}
use Rattle.gs_back.specs.Told.{WritesBack}
use Rattle.gs_back.specs.declared.err.BackErr.{BackErr}
use Rattle.gs_life.specs.Origin.{Origin}
use Rattle.gs_life.specs.Standing.{as_in, as_in_but, IsSteady}
use Rattle.gs_life.specs.Called.{StandsFor, Stood, IsBack, Closes}
use Rattle.gs_life.specs.Stands.{IsGateOf, IsFresh, IsRunning, IsGated, IsClosed, Stands, Fresh, Gated, Closed, StandsClosed, StandsAt}
use Rattle.gs_life.proofs.Images.{image_runs}
use Rattle.gs_life.proofs.Gating.{final_names, gated_kept, gated_image, gated_pushed, closed_kept}
use Rattle.gs_life.proofs.Closing.{back_left, closed_pushed, image_gated, closing_image}
use Rattle.gs_life.proofs.Loading.{stands_at, only_steady, header_only, beginning_image}

-- what follows where a call answered Ok
pub ok_gives : {T E P S : Type 0} (r : Result T E) → OnOk r P → (P → S) → OnOk r S
ok_gives (Ok x) p over = over p
ok_gives (Err e) p over = tt

-- ---- loading

-- the case that a loaded store is at
pub loaded_stands : (o : Origin) (s : DiskState) (store : StoreState) → Leaves s s.folder
    → EachNow (Stands o) s → IsLoaded s store
    → StandsAt o s.folder store.entries (stage_of store.entries)
loaded_stands o s store reads stands loaded =
    stands_at o s.folder store loaded.found (stands s.folder reads)

pub loaded_steady : (s : DiskState) (store : StoreState) → IsLoaded s store
    → IsSteady store.entries s
loaded_steady s store loaded =
    only_steady store.entries s loaded.found.entries loaded.only

pub loaded_for : (o : Origin) (s : DiskState) (store : StoreState) → KeepRules o.given.ops
    → Leaves s s.folder → EachNow (Stands o) s → IsLoaded s store → StandsFor o store.entries s
loaded_for o s store rules reads stands loaded = record {
  rules = rules;
  steady = loaded_steady s store loaded;
  stands = loaded_stands o s store reads stands loaded;
}

-- what stands at a stage that is known
pub gated_for : (o : Origin) (es : List Entry) (s : DiskState) → stage_of es ≡ stages.Gated
    → StandsFor o es s → IsGated o s.folder es
gated_for o es s is for = subst (StandsAt o s.folder es) is for.stands

pub closed_for : (o : Origin) (es : List Entry) (s : DiskState) → stage_of es ≡ stages.Closed
    → StandsFor o es s → IsClosed o s.folder es
closed_for o es s is for = subst (StandsAt o s.folder es) is for.stands

pub for_gated : (o : Origin) (es : List Entry) (s : DiskState) → KeepRules o.given.ops
    → IsSteady es s → IsGated o s.folder es → StandsFor o es s
for_gated o es s rules steady g = record {
  rules = rules;
  steady = steady;
  stands = subst (StandsAt o s.folder es) (sym g.stage) g;
}

-- ---- images

-- an image that keeps what reads stands as it does
pub image_stands : (o : Origin) → KeepRules o.given.ops → (es : List Entry) (f image : Folder)
    (s : Stage) → StandsAt o f es s → Keeps (as_in f) es image → Stands o image
image_stands o rules es f image stages.Fresh at k =
    Fresh (subst (λ (l : List Entry). HasEntries l image) at.0 k.entries) (record {
      goes_on = at.1.goes_on;
      users = λ x user. k.user_files x user tt ∙ at.1.users x user;
    })
image_stands o rules es f image stages.Running at k = image_runs o rules es f image k at
image_stands o rules es f image stages.Gated at k = Gated es k.entries
    (gated_kept o rules es f image at k.versions (λ x user out. k.user_files x user tt))
image_stands o rules es f image stages.Closed at k = Closed es k.entries
    (closed_kept o rules es f image at k.versions (λ x user. k.user_files x user tt))

pub each_stands : (o : Origin) (es : List Entry) (s : DiskState) → StandsFor o es s
    → EachNow (Stands o) s
each_stands o es s for image left =
    image_stands o for.rules es s.folder image (stage_of es) for.stands (for.steady image left)

-- each image of a closed record is closed
pub each_closed : (o : Origin) → KeepRules o.given.ops → (es : List Entry) (s : DiskState)
    → IsSteady es s → IsClosed o s.folder es → EachNow (StandsClosed o) s
each_closed o rules es s steady closed image left =
    let k = steady image left in (
      es,
      k.entries,
      closed_kept o rules es s.folder image closed k.versions
          (λ x user. k.user_files x user tt),
    )

-- ---- the first entry

pub begins : {T : Type 0} (o : Origin) (a b : DiskState) (r : Result T StoreErr)
    → Leaves b b.folder → entry.fits (made.Header o.texts) ≡ true → IsSteady [] a
    → IsFresh o a.folder → BeginsEntry (made.Header o.texts) a b r
    → Stood o (made.Header o.texts ∷ []) (λ f. IsRunning o f (made.Header o.texts ∷ [])) a b r
begins o a b r reads fits steady fresh told =
    let e = made.Header o.texts in
    let base = as_in a.folder in
    let alike : Stand base e a.folder = λ v kept names. refl in
    record {
      always = always_wider (KeepsEither base [] e) (Stands o) a b
          (told.any_moment base steady alike)
          (λ image k. beginning_image o a.folder image fits fresh k);
      steady = ok_gives r told.after (λ added.
          keeps_as_read base (e ∷ []) b reads (added base steady alike));
      holds = ok_gives r told.after (λ added.
          header_only o b.folder fresh.goes_on fits (λ x user.
          (added base steady alike b.folder reads).user_files x user tt ∙ fresh.users x user));
    }

-- ---- the gate

gating_image : (o : Origin) → KeepRules o.given.ops → (es : List Entry) (g : GateNote)
    (f image : Folder) → IsRunning o f es → IsGated o f (es ++ made.Gate g ∷ [])
    → KeepsEither (as_in f) es (made.Gate g) image → Stands o image
gating_image o rules es g f image r gated (inl k) = image_runs o rules es f image k r
gating_image o rules es g f image r gated (inr k) = Gated (es ++ made.Gate g ∷ []) k.entries
    (gated_kept o rules (es ++ made.Gate g ∷ []) f image gated k.versions
    (λ x user out. k.user_files x user tt))

pub gates : {T : Type 0} (o : Origin) → KeepRules o.given.ops → (store : StoreState)
    (g : GateNote) (a b : DiskState) (r : Result T StoreErr) → Leaves b b.folder
    → entry.fits (made.Gate g) ≡ true → IsGateOf o a.folder g → IsSteady store.entries a
    → IsRunning o a.folder store.entries → AddsEntry store (made.Gate g) a b r
    → Stood o (store.entries ++ made.Gate g ∷ [])
    (λ f. IsGated o f (store.entries ++ made.Gate g ∷ [])) a b r
gates o rules store g a b r reads fits gate steady run told =
    let e = made.Gate g in
    let es = store.entries in
    let base = as_in a.folder in
    let alike : Stand base e a.folder = λ v kept names. refl in
    let gated : IsGated o a.folder (es ++ e ∷ []) =
    gated_pushed o es g a.folder fits (gate_follows es g run.stage) gate run in
    record {
      always = always_wider (KeepsEither base es e) (Stands o) a b
          (told.any_moment base steady alike)
          (λ image k. gating_image o rules es g a.folder image run gated k);
      steady = ok_gives r told.after (λ added.
          keeps_as_read base (es ++ e ∷ []) b reads (added base steady alike));
      holds = ok_gives r told.after (λ added.
          let k = added base steady alike b.folder reads in
          gated_kept o rules (es ++ e ∷ []) a.folder b.folder gated k.versions
          (λ x user out. k.user_files x user tt));
    }

-- ---- results that are brought back

pub brings_back : {T : Type 0} (o : Origin) → KeepRules o.given.ops → (es : List Entry)
    (a b : DiskState) (r : Result T BackErr) → Leaves b b.folder → IsSteady es a
    → IsGated o a.folder es → WritesBack es a b r → Stood o es (λ f. IsBack o f es) a b r
brings_back o rules es a b r reads steady g told =
    let free = final_names g.note in
    let base = as_in_but free a.folder in
    let begun : EachNow (Keeps base es) a = λ image left.
    let k = steady image left in record {
      entries = k.entries;
      user_files = λ x user out. k.user_files x user tt;
      versions = k.versions;
    } in
    let among : AreAmong (names_of (finals_of es)) free = λ x out.
    subst (λ (l : List (List ℕ)). Outside l x)
    (sym (ap (λ (n : Option GateNote). names_of (finals_at n)) g.noted)) out in
    let kept = told.any_moment base among begun in
    let here = kept.now b.folder reads in
    record {
      always = always_wider (Keeps base es) (Stands o) a b kept
          (λ image k. image_gated o rules es a.folder image g k);
      steady = ok_gives r told.only (λ only. only_steady es b here.entries only);
      holds = ok_gives r told.set (λ set. record {
        gated = gated_image o rules es a.folder b.folder g here;
        left = back_left o a.folder b.folder g.note g.gate g.users
            (subst (λ (n : Option GateNote). AreSet (finals_at n) a.folder b.folder) g.noted set)
            (subst (λ (n : Option GateNote).
            KeepsOthers (names_of (finals_at n)) a.folder b.folder) g.noted told.others);
      });
    }

-- ---- the last entry

pub closes : {T : Type 0} (o : Origin) → KeepRules o.given.ops → (store : StoreState)
    (a b : DiskState) (r : Result T StoreErr) → IsSteady store.entries a
    → IsBack o a.folder store.entries → AddsEntry store made.Closed a b r → Closes o a b r
closes o rules store a b r steady back told =
    let e = made.Closed in
    let es = store.entries in
    let base = as_in a.folder in
    let alike : Stand base e a.folder = λ v kept names. refl in
    let closed : IsClosed o a.folder (es ++ e ∷ []) =
    closed_pushed o es a.folder closed_fits (closed_follows es back.gated.stage) back.gated
    back.left in
    record {
      always = always_wider (KeepsEither base es e) (Stands o) a b
          (told.any_moment base steady alike)
          (λ image k. closing_image o rules es a.folder image back.gated closed k);
      closed = ok_gives r told.after (λ added image left.
          let k = added base steady alike image left in (
            es ++ e ∷ [],
            k.entries,
            closed_kept o rules (es ++ e ∷ []) a.folder image closed
                k.versions (λ x user. k.user_files x user tt),
          ));
    }
