-- The files of a store are removed.
use Rattle.std.proofs.Common.{◌≡◌, ◌≢◌, ℕ, zero, suc, ◌+◌, ◌<◌, ◌≤◌, ◌⊎◌, true, List, [], ◌∷◌, length, get_or, Option, Some, None, Result, refl, sym, ap, subst, ◌∙◌, inl, inr, ⊎_elim, arith, below_more}
use Rattle.std.specs.Prelude.{◌↔◌, OnOk, IsSome, is_some, slice_index_or, bytes_eq}
use Rattle.std.proofs.lemmas.Bool.{cases_Bool}
use Rattle.std.proofs.lemmas.Slice.Eq.{bytes_eq-Decides}
use Rattle.gs_disk.specs.Folder.{Folder, DiskState, Outside, KeepsOthers, Same, Has}
use Rattle.gs_disk.specs.Moments.{LeavesOnly, EachNow, Passes, Always}
use Rattle.gs_disk.specs.Going.{started, goes_on, always_started, always_goes_on, always_same, item_among}
use Rattle.gs_disk.specs.Name.{IsStore}
use Rattle.gs_log.specs.Names.{log_name, mark_name, mark_is_store, log_is_not_mark}
use Rattle.gs_entries.specs.declared.entry.Entry.{Entry}
use Rattle.gs_store.specs.Apart.{user_not_mark, mark_not_version}
use Rattle.gs_store.specs.Keeps.{Base, Keeps}
use Rattle.gs_store.specs.Names.{version_name}
use Rattle.gs_store.specs.Spans.{TouchesOnly, marked_holds}
use Rattle.gs_back.specs.Clean.{KeepsUnstored, HasNoStore, IsUnmarked, AgreesOnMark, KeepsOrUnmarked, Cleans, Unmarks, RemovesStored}
use Rattle.gs_back.proofs.Copies.{then_touches, none_touched, read_touches}

-- ---- the mark

unmarked_or : (base : Base) (es : List Entry) (f g : Folder) (o : Option (List ℕ))
    → g mark_name ≡ o → is_some (f mark_name) ≡ true → Keeps base es f
    → KeepsOthers (mark_name ∷ []) f g → KeepsOrUnmarked base es g
unmarked_or base es f g None at marked k step = inr at
unmarked_or base es f g (Some bytes) at marked k step =
    let h = marked_holds es f marked k.entries in
    inl (record {
      entries = inl (record {
        marked = ap is_some at;
        bytes = h.bytes;
        file = step.each log_name (log_is_not_mark, tt) ∙ h.file;
        log = h.log;
      });
      user_files = λ x user out. step.each x (user_not_mark x user, tt)
          ∙ k.user_files x user out;
      versions = λ v kept named. step.each (version_name v)
          (λ same. mark_not_version v kept (sym same), tt) ∙ k.versions v kept named;
    })

unmark_at : (base : Base) (es : List Entry) (o : Option (List ℕ)) (a b : DiskState)
    → a.folder mark_name ≡ o → AgreesOnMark a → EachNow (Keeps base es) a
    → Passes (KeepsOthers (mark_name ∷ [])) a b
    → (a.folder mark_name ≡ None → Passes Same a b) → Always (KeepsOrUnmarked base es) a b
unmark_at base es None a b at agrees stands passes idle =
    always_same (KeepsOrUnmarked base es) a a b
    (always_started (KeepsOrUnmarked base es) a (λ f left. inl (stands f left))) (idle at)
unmark_at base es (Some bytes) a b at agrees stands passes idle =
    always_goes_on (KeepsOrUnmarked base es) (KeepsOthers (mark_name ∷ [])) a a b
    (always_started (KeepsOrUnmarked base es) a (λ f left. inl (stands f left))) passes
    (λ f g left kept step. unmarked_or base es f g (g mark_name) refl
    (agrees f left ∙ ap is_some at) (stands f left) step)

-- the mark was removed, and then what changed nothing
pub unmarks : {T E : Type 0} (r : Result T E) (a b c : DiskState)
    → Passes (KeepsOthers (mark_name ∷ [])) a b
    → (a.folder mark_name ≡ None → Passes Same a b)
    → KeepsOthers (mark_name ∷ []) a.folder b.folder → Passes Same b c
    → c.folder ≡ b.folder
    → OnOk r (c.folder mark_name ≡ None) → OnOk r (LeavesOnly c.folder c) → Unmarks a c r
unmarks r a b c passes idle others same reads gone only = record {
  any_moment = λ agrees base es stands. always_same (KeepsOrUnmarked base es) a b c
      (unmark_at base es (a.folder mark_name) a b refl agrees stands passes idle) same;
  gone = gone;
  only = only;
  touches = read_touches (mark_name ∷ []) a b c (record { reads = others; images = passes }) same
      reads;
}

-- ---- the files

-- what was removed of these files so far
pub record IsRemovedTo (names : List (List ℕ)) (i : ℕ) (a b : DiskState) : Type 0 where
  pub touches : TouchesOnly names a b
  pub others : KeepsUnstored a.folder b.folder
  pub images : Passes KeepsUnstored a b
  pub gone : (k : ℕ) → k < i → IsStore (slice_index_or names k [])
      → b.folder (slice_index_or names k []) ≡ None

unstored_same : (f : Folder) → KeepsUnstored f f
unstored_same f = record { each = λ x not. refl }

unstored_then : (f g h : Folder) → KeepsUnstored f g → KeepsUnstored g h → KeepsUnstored f h
unstored_then f g h one two = record { each = λ x not. two.each x not ∙ one.each x not }

pub removed_none : (names : List (List ℕ)) (s : DiskState) → IsRemovedTo names 0 s s
removed_none names s = record {
  touches = none_touched names s;
  others = unstored_same s.folder;
  images = started KeepsUnstored unstored_same s;
  gone = λ k lt. absurd (omega arith);
}

item_at : (names : List (List ℕ)) (i : ℕ) (name : List ℕ) → i < length names
    → name ≡ get_or names i name → name ≡ get_or names i []
item_at [] i name lt is = absurd (omega arith)
item_at (n ∷ names) zero name lt is = is
item_at (n ∷ names) (suc i) name lt is = item_at names i name (omega arith) is

pub skipped : (names : List (List ℕ)) (i : ℕ) (name : List ℕ) (a b : DiskState)
    → i < length names → name ≡ get_or names i name → (IsStore name → ⊥)
    → IsRemovedTo names i a b
    → IsRemovedTo names (i + 1) a b
skipped names i name a b lt is not h = record {
  touches = h.touches;
  others = h.others;
  images = h.images;
  gone = below_more (λ k. IsStore (slice_index_or names k [])
      → b.folder (slice_index_or names k []) ≡ None) i h.gone
      (λ store. absurd (not (subst IsStore (sym (item_at names i name lt is)) store)));
}

unstored_beside : (name : List ℕ) (f g : Folder) → IsStore name
    → KeepsOthers (name ∷ []) f g
    → KeepsUnstored f g
unstored_beside name f g store step = record {
  each = λ x not. step.each x (λ same. not (subst IsStore (sym same) store), tt);
}

unstored_on : (name : List ℕ) (a b c : DiskState) → IsStore name → Passes KeepsUnstored a b
    → Passes (KeepsOthers (name ∷ [])) b c → Passes KeepsUnstored a c
unstored_on name a b c store one two = goes_on KeepsUnstored (KeepsOthers (name ∷ []))
    KeepsUnstored a b c one two (λ f g s. s)
    (λ f g h left s t. unstored_then f g h s (unstored_beside name g h store t))

-- a file's removal was begun
pub removing : (names : List (List ℕ)) (i : ℕ) (name : List ℕ) (a b c : DiskState)
    → i < length names → name ≡ get_or names i name → IsStore name
    → IsRemovedTo names i a b
    → KeepsOthers (name ∷ []) b.folder c.folder → Passes (KeepsOthers (name ∷ [])) b c
    → TouchesOnly names a c × KeepsUnstored a.folder c.folder × Passes KeepsUnstored a c
removing names i name a b c lt is store h others passes = (
  then_touches names (name ∷ []) a b c (item_among names i name lt is) h.touches
      (record { reads = others; images = passes }),
  unstored_then a.folder b.folder c.folder h.others
      (unstored_beside name b.folder c.folder store others),
  unstored_on name a b c store h.images passes,
)

names_cases : (x y : List ℕ) → (x ≡ y) ⊎ (x ≢ y)
names_cases x y =
    elim (cases_Bool (bytes_eq x y)) [
      | inl same ↦ inl ((bytes_eq-Decides x y).0 same)
      | inr apart ↦ inr (λ is. let same = (bytes_eq-Decides x y).1 is in absurd cc)
    ]

gone_before : (x name : List ℕ) (f g : Folder) → KeepsOthers (name ∷ []) f g
    → g name ≡ None
    → f x ≡ None → g x ≡ None
gone_before x name f g step gone none = ⊎_elim (λ same. ap g same ∙ gone)
    (λ apart. step.each x (apart, tt) ∙ none) (names_cases x name)

pub removed_more : (names : List (List ℕ)) (i : ℕ) (name : List ℕ) (a b c : DiskState)
    → i < length names → name ≡ get_or names i name → IsStore name
    → IsRemovedTo names i a b → KeepsOthers (name ∷ []) b.folder c.folder
    → Passes (KeepsOthers (name ∷ [])) b c → c.folder name ≡ None
    → IsRemovedTo names (i + 1) a c
removed_more names i name a b c lt is store h others passes gone =
    let r = removing names i name a b c lt is store h others passes in
    record {
      touches = r.0;
      others = r.1;
      images = r.2;
      gone = below_more (λ k. IsStore (slice_index_or names k [])
          → c.folder (slice_index_or names k []) ≡ None) i
          (λ k low own. gone_before (slice_index_or names k []) name b.folder c.folder others gone
          (h.gone k low own))
          (λ own. ap c.folder (sym (item_at names i name lt is)) ∙ gone);
    }

pub removes : {T E : Type 0} (r : Result T E) (names : List (List ℕ)) (a c : DiskState)
    → TouchesOnly names a c × KeepsUnstored a.folder c.folder × Passes KeepsUnstored a c
    → OnOk r ((x : List ℕ) → IsStore x → Has x names → c.folder x ≡ None)
    → RemovesStored names a c r
removes r names a c h gone = record {
  gone = gone;
  touches = h.0;
  others = h.1;
  images = h.2;
}

pub all_gone : (names : List (List ℕ)) (i : ℕ) (a b : DiskState) → length names ≤ i
    → IsRemovedTo names i a b → (x : List ℕ) → IsStore x → Has x names
    → b.folder x ≡ None
all_gone names i a b le h x store has =
    ap b.folder (sym has.2)
    ∙ h.gone has.0 (omega (arith, has.1)) (subst IsStore (sym has.2) store)

-- ---- all of it

outside_unless : (names : List (List ℕ)) (x : List ℕ) → (Has x names → ⊥)
    → Outside names x
outside_unless [] x not = tt
outside_unless (n ∷ names) x not = (
  λ same. not (0, omega arith, sym same),
  outside_unless names x (λ has. not (suc has.0, omega (arith, has.1), has.2)),
)

unmarked_images : (b c : DiskState) → LeavesOnly b.folder b → b.folder mark_name ≡ None
    → Passes Same b c → EachNow IsUnmarked c
unmarked_images b c only gone passes image left =
    let from = passes.now image left in
    ap (λ (f : Folder). f mark_name) (from.2.is ∙ only from.0 from.1) ∙ gone

still_unmarked : (base : Base) (es : List Entry) (names : List (List ℕ)) (a c d : DiskState)
    → EachNow IsUnmarked c → (Has mark_name names → ⊥) → TouchesOnly names c d
    → Always (KeepsOrUnmarked base es) a c → Always (KeepsOrUnmarked base es) a d
still_unmarked base es names a c d unmarked not touches so_far =
    always_goes_on (KeepsOrUnmarked base es) (KeepsOthers names) a c d so_far touches.images
    (λ f g left kept step. inr (step.each mark_name (outside_unless names mark_name not)
    ∙ unmarked f left))

-- what was cleaned so far
pub record IsCleanedTo (a b : DiskState) : Type 0 where
  pub any_moment : AgreesOnMark a → (base : Base) (es : List Entry) → EachNow (Keeps base es) a
      → Always (KeepsOrUnmarked base es) a b
  pub others : KeepsUnstored a.folder b.folder
  pub images : Passes KeepsUnstored a b

pub mark_cleaned : {T E : Type 0} (r : Result T E) (a b : DiskState) → Unmarks a b r
    → IsCleanedTo a b
mark_cleaned r a b u = record {
  any_moment = u.any_moment;
  others = unstored_beside mark_name a.folder b.folder mark_is_store u.touches.reads;
  images = unstored_on mark_name a a b mark_is_store
      (started KeepsUnstored unstored_same a) u.touches.images;
}

pub same_cleaned : (a b c : DiskState) → IsCleanedTo a b → Passes Same b c
    → c.folder ≡ b.folder → IsCleanedTo a c
same_cleaned a b c h passes reads = record {
  any_moment = λ agrees base es stands. always_same (KeepsOrUnmarked base es) a b c
      (h.any_moment agrees base es stands) passes;
  others = record { each = λ x not. ap (λ (f : Folder). f x) reads ∙ h.others.each x not };
  images = goes_on KeepsUnstored Same KeepsUnstored a b c h.images passes (λ f g s. s)
      (λ f g k left s t. subst (KeepsUnstored f) (sym t.is) s);
}

-- the names that a disk gave
abbrev pub AreNames : List (List ℕ) → Folder → Type 0
AreNames names folder = (x : List ℕ) → Has x names ↔ IsSome (folder x)

some_not_none : (o : Option (List ℕ)) → IsSome o → o ≡ None → ⊥
some_not_none None some e = absurd cc
some_not_none (Some bytes) some e = absurd cc

not_listed : (names : List (List ℕ)) (folder : Folder) (x : List ℕ) → AreNames names folder
    → folder x ≡ None → Has x names → ⊥
not_listed names folder x are none has = some_not_none (folder x) ((are x).0 has) none

pub rest_cleaned : {T E : Type 0} (r : Result T E) (names : List (List ℕ)) (a b c d : DiskState)
    → IsCleanedTo a c → LeavesOnly b.folder b → b.folder mark_name ≡ None
    → Passes Same b c
    → AreNames names b.folder → RemovesStored names c d r → IsCleanedTo a d
rest_cleaned r names a b c d h only gone passes are rest = record {
  any_moment = λ agrees base es stands. still_unmarked base es names a c d
      (unmarked_images b c only gone passes) (not_listed names b.folder mark_name are gone)
      rest.touches (h.any_moment agrees base es stands);
  others = unstored_then a.folder c.folder d.folder h.others rest.others;
  images = goes_on KeepsUnstored KeepsUnstored KeepsUnstored a c d h.images rest.images
      (λ f g s. s) (λ f g k left s t. unstored_then f g k s t);
}

gone_at : (names : List (List ℕ)) (o : Option (List ℕ)) (b c d : Folder) (x : List ℕ)
    → b x ≡ o
    → AreNames names b → c ≡ b → KeepsOthers names c d
    → (IsStore x → Has x names → d x ≡ None) → IsStore x → d x ≡ None
gone_at names None b c d x at are same step gone store =
    step.each x (outside_unless names x (not_listed names b x are at))
    ∙ ap (λ (f : Folder). f x) same ∙ at
gone_at names (Some bytes) b c d x at are same step gone store =
    gone store ((are x).1 (ap is_some at))

pub no_store : (names : List (List ℕ)) (b c d e : DiskState) → AreNames names b.folder
    → c.folder ≡ b.folder → KeepsOthers names c.folder d.folder
    → ((x : List ℕ) → IsStore x → Has x names → d.folder x ≡ None)
    → e.folder ≡ d.folder
    → HasNoStore e.folder
no_store names b c d e are same step gone last x store =
    ap (λ (f : Folder). f x) last
    ∙ gone_at names (b.folder x) b.folder c.folder d.folder x refl are same step (gone x) store

pub cleans : {T E : Type 0} (r : Result T E) (a b : DiskState) → IsCleanedTo a b
    → OnOk r (HasNoStore b.folder) → OnOk r (LeavesOnly b.folder b) → Cleans a b r
cleans r a b h gone only = record {
  any_moment = h.any_moment;
  gone = gone;
  only = only;
  others = h.others;
  images = h.images;
}
