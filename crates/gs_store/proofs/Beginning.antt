-- The beginning of a record.
use Rattle.std.proofs.Common.{◌≡◌, ℕ, true, false, List, [], ◌∷◌, Result, Ok, Err, refl, sym, ap, subst, ◌∙◌, inl, inr}
use Rattle.std.specs.Prelude.{is_some}
use Rattle.gs_disk.specs.Folder.{Folder, DiskState, KeepsOthers}
use Rattle.gs_disk.specs.Moments.{LeavesOnly, Passes, Always}
use Rattle.gs_disk.specs.Going.{always_started, always_beside, always_then, always_wider, keeps, keeps_none}
use Rattle.gs_log.specs.Names.{log_name, mark_name}
use Rattle.gs_log.specs.Holding.{Holds, IsNoneOrEmpty}
use Rattle.gs_entries.specs.Order.{stage_by, later, stage_after, stage_of}
use Rattle.gs_entries.specs.declared.entry.Entry.{Entry}
use Rattle.gs_entries.specs.declared.entry.Entry.TheVariants as made
use Rattle.gs_entries.specs.declared.entry.Texts.{Texts}
use Rattle.gs_entries.specs.declared.entry.Stage.{Stage}
use Rattle.gs_entries.specs.declared.entry.Stage.TheVariants as stages
use Rattle.gs_store.specs.declared.err.StoreErr.{StoreErr}
use Rattle.gs_store.specs.Apart.{user_not_log, user_not_mark}
use Rattle.gs_store.specs.Keeps.{spelled, HasEntries, Keeps, KeepsEither}
use Rattle.gs_store.specs.Spans.{Adds, Stays, Agreed, on_ok}
use Rattle.gs_store.specs.State.{StoreState, IsDiskOf, no_entries}
use Rattle.gs_store.specs.Told.{AddsEntry, MakesLog, BeginsEntry}
use Rattle.gs_store.proofs.Following.{is_begun}

none_spelled : spelled [] ≡ []
unfolding spelled
none_spelled = refl

own_entries : (f g : Folder) → IsNoneOrEmpty f g → HasEntries [] g
own_entries f g (inl none) = inr (none, refl)
own_entries f g (inr h) = inl (subst (λ (l : List (List ℕ)). Holds l g) (sym none_spelled) h.0)

-- making a log keeps what there is without entries
pub made_stays : (a b : DiskState) → Always (IsNoneOrEmpty a.folder) a b
    → Passes (KeepsOthers (log_name ∷ mark_name ∷ [])) a b → Stays [] a b
made_stays a b all passes base stands =
    always_beside (Keeps base []) (IsNoneOrEmpty a.folder) (Keeps base [])
    (KeepsOthers (log_name ∷ mark_name ∷ [])) a b stands all passes
    (λ f left. stands f left) (λ f g left k step own. record {
      entries = own_entries a.folder g own;
      user_files = λ x user out. step.each x (user_not_log x user, (user_not_mark x user, tt))
          ∙ k.user_files x user out;
      versions = λ v kept named. absurd named;
    })

pub empty_log : (list : List (List ℕ)) (es : List Entry) → list ≡ [] → es ≡ []
    → list ≡ spelled es
empty_log list es none is = none ∙ sym none_spelled ∙ sym (ap spelled is)

pub made_disk : (store : StoreState) (a b : DiskState) → store.entries ≡ [] → IsDiskOf store a
    → Stays [] a b → LeavesOnly b.folder b → Holds [] b.folder → IsDiskOf no_entries b
made_disk store a b none disk stay only held =
    let agreed : Agreed [] a = subst (λ (l : List Entry). Agreed l a) none disk.agreed in
    record {
      agreed = (agreed.0, (stay agreed.0 agreed.1).now);
      mark = λ image left. ap (λ (f : Folder). is_some (f mark_name)) (only image left)
          ∙ held.marked;
    }

-- a log that stands stays
pub stays_made : (store : StoreState) (s : DiskState) → store ≡ no_entries → IsDiskOf store s
    → MakesLog {T = Unit {0}} s s (Ok tt)
stays_made store s is disk = record {
  any_moment = λ base stands. always_started (Keeps base []) s stands;
  others = keeps_none (log_name ∷ mark_name ∷ []) s.folder;
  disk = subst (λ (t : StoreState). IsDiskOf t s) is disk;
}

-- ---- a store in which nothing is recorded has no entries

begun_later : (s t : Stage) → is_begun s ≡ true → is_begun (later s t) ≡ true
begun_later stages.Fresh t e = absurd cc
begun_later stages.Running stages.Fresh e = refl
begun_later stages.Running stages.Running e = refl
begun_later stages.Running stages.Gated e = refl
begun_later stages.Running stages.Closed e = refl
begun_later stages.Gated stages.Fresh e = refl
begun_later stages.Gated stages.Running e = refl
begun_later stages.Gated stages.Gated e = refl
begun_later stages.Gated stages.Closed e = refl
begun_later stages.Closed t e = refl

begun_by : (e : Entry) → is_begun (stage_by e) ≡ true
begun_by (made.Header t) = refl
begun_by (made.Done n op os) = refl
begun_by (made.Gate g) = refl
begun_by made.Closed = refl

begun_after : (s : Stage) (es : List Entry) → is_begun s ≡ true
    → is_begun (stage_after s es) ≡ true
begun_after s [] e = e
begun_after s (x ∷ es) e = begun_after (later s (stage_by x)) es (begun_later s (stage_by x) e)

fresh_not : (t : Stage) → t ≡ stages.Fresh → is_begun t ≡ true → ⊥
fresh_not t is begun = let no : is_begun t ≡ false = ap is_begun is in absurd cc

pub none_if_fresh : (es : List Entry) → stage_of es ≡ stages.Fresh → es ≡ []
none_if_fresh [] is = refl
none_if_fresh (e ∷ es) is =
    absurd (fresh_not (stage_of (e ∷ es)) is (begun_after (stage_by e) es (begun_by e)))

-- ---- a header behind it

begun_adds : (t : Texts) (a b d : DiskState) → Stays [] a b → Adds [] (made.Header t) b d
    → Adds [] (made.Header t) a d
begun_adds t a b d stay adds base stands fresh =
    let e = made.Header t in
    let s = stay base stands in
    let made = always_wider (Keeps base []) (KeepsEither base [] e) a b s (λ f k. inl k) in
    always_then (KeepsEither base [] e) a b d made
    (adds base s.now (λ v kept names. absurd names))

-- that the log was made, and what follows from it where a header was added to it
pub begun : (r : Result (Unit {0}) StoreErr) (x : Unit {0}) (t u : Texts) (store : StoreState)
    (a b d : DiskState) → store ≡ no_entries → u ≡ t → MakesLog {T = Unit {0}} a b (Ok x)
    → AddsEntry store (made.Header u) b d r → BeginsEntry (made.Header t) a d r
begun r x t u store a b d none same makes all =
    let adds : AddsEntry no_entries (made.Header t) b d r = subst
    (λ (l : StoreState). AddsEntry l (made.Header t) b d r) none
    (subst (λ (v : Texts). AddsEntry store (made.Header v) b d r) same all) in
    record {
      any_moment = begun_adds t a b d makes.any_moment adds.any_moment;
      after = on_ok r adds.after adds.only (λ h o base stands fresh. h base
          (makes.any_moment base stands).now (λ v kept names. absurd names));
      only = adds.only;
      others = keeps (log_name ∷ mark_name ∷ []) (log_name ∷ []) (λ x out. (
        out.0,
        tt,
      )) a.folder
          b.folder d.folder makes.others adds.others;
      disk = adds.disk;
    }

pub not_begun : (r : Result (Unit {0}) StoreErr) (failure : StoreErr) (t : Texts)
    (a b : DiskState) → MakesLog a b r
    → BeginsEntry {T = Unit {0}} (made.Header t) a b (Err failure)
not_begun r failure t a b makes = record {
  any_moment = λ base stands fresh. always_wider (Keeps base [])
      (KeepsEither base [] (made.Header t)) a b (makes.any_moment base stands) (λ f k. inl k);
  after = tt;
  only = tt;
  others = makes.others;
  disk = tt;
}
