-- What a call that adds an entry does, at every moment and for whatever the files are to be.
use Rattle.std.specs.Prelude.{◌≡◌, ℕ, List, [], ◌∷◌, ◌++◌, Result, Ok, Err, OnOk, None, Some, Option, IsSome, refl}
use Rattle.std.proofs.Common.{inl, inr, ⊎_elim, sym, ◌∙◌, subst}
use Rattle.gs_types.specs.declared.note.Version.{Version}
use Rattle.gs_disk.specs.Folder.{Folder, DiskState, KeepsOthers}
use Rattle.gs_disk.specs.Moments.{Leaves, LeavesOnly, EachNow, Passes, Always}
use Rattle.gs_disk.specs.Going.{always_beside}
use Rattle.gs_log.specs.Names.{log_name, mark_name}
use Rattle.gs_log.specs.Holding.{Holds, IsBeforeOrAfter}
use Rattle.gs_entries.specs.Entries.{entry}
use Rattle.gs_entries.specs.declared.entry.Entry.{Entry}
use Rattle.gs_store.specs.Names.{version_name, IsKept}
use Rattle.gs_store.specs.Versions.{Names}
use Rattle.gs_store.specs.Keeps.{spelled, HasEntries, Base, Keeps, KeepsEither, keeps_logged, keeps_pushed}

-- the files that a new entry names read as they are to be
abbrev pub Stand : Base → Entry → Folder → Type 0
Stand base e folder = (v : Version) → IsKept v → Names v e
    → folder (version_name v) ≡ base.outs v

-- an entry is added: whatever each image kept, each image keeps, and those that have the entry keep
-- what it names
abbrev pub Adds : List Entry → Entry → DiskState → DiskState → Type 0
Adds es e a b = (base : Base) → EachNow (Keeps base es) a → Stand base e a.folder
    → Always (KeepsEither base es e) a b

-- it was added
abbrev pub Added : List Entry → Entry → DiskState → DiskState → Type 0
Added es e a b = (base : Base) → EachNow (Keeps base es) a → Stand base e a.folder
    → EachNow (Keeps base (es ++ e ∷ [])) b

-- all images agree on the entries, on the users' files and on the version files that the entries
-- name
abbrev pub Agreed : List Entry → DiskState → Type 0
Agreed es s = (base : Base) × EachNow (Keeps base es) s

-- whatever each image kept, each image keeps
abbrev pub Stays : List Entry → DiskState → DiskState → Type 0
Stays es a b = (base : Base) → EachNow (Keeps base es) a → Always (Keeps base es) a b

-- what reads, and each image, is the same but for these files
pub record TouchesOnly (names : List (List ℕ)) (old new : DiskState) : Type 0 where
  pub reads : KeepsOthers names old.folder new.folder
  pub images : Passes (KeepsOthers names) old new

-- each image has the mark
abbrev pub IsMarked : DiskState → Type 0
IsMarked s = EachNow (λ image. IsSome (image mark_name)) s

-- as this folder reads
abbrev pub as_read : Base → Folder → Base
as_read base folder = record {
  free = base.free;
  users = folder;
  outs =
      λ v. folder (version_name v);
}

pub keeps_as_read : (base : Base) (es : List Entry) (s : DiskState) → Leaves s s.folder
    → EachNow (Keeps base es) s → EachNow (Keeps (as_read base s.folder) es) s
keeps_as_read base es s reads stands image left =
    let k = stands image left in let f = stands s.folder reads in
    record {
      entries = k.entries;
      user_files = λ x user out. k.user_files x user out ∙ sym (f.user_files x user out);
      versions = λ v kept named. k.versions v kept named ∙ sym (f.versions v kept named);
    }

not_none : {A : Type 0} (o : Option A) → IsSome o → o ≡ None → ⊥
not_none (Some x) some e = absurd cc
not_none None some e = absurd cc

pub marked_holds : (es : List Entry) (image : Folder) → IsSome (image mark_name)
    → HasEntries es image → Holds (spelled es) image
marked_holds es image mark (inl h) = h
marked_holds es image mark (inr none) = absurd (not_none (image mark_name) mark none.0)

-- a marked disk whose images have these entries holds them
pub agreed_holds : (es : List Entry) (s : DiskState) → IsMarked s → Agreed es s
    → EachNow (Holds (spelled es)) s
agreed_holds es s marked agreed image left =
    marked_holds es image (marked image left) ((agreed.1 image left).entries)

pub appended : (es : List Entry) (e : Entry) (a b : DiskState) → Leaves a a.folder
    → Always (IsBeforeOrAfter (spelled es) (entry.spell e) a.folder) a b
    → Passes (KeepsOthers (log_name ∷ [])) a b → Adds es e a b
appended es e a b reads all steps base stands fresh =
    always_beside (Keeps base es) (IsBeforeOrAfter (spelled es) (entry.spell e) a.folder)
    (KeepsEither base es e) (KeepsOthers (log_name ∷ [])) a b stands all steps
    (λ f left. inl (stands f left))
    (λ f g left k step w. ⊎_elim (λ h. inl (keeps_logged base es f g k step h))
    (λ h. inr (pushed g h)) w)
  where
    pushed : (g : Folder) → Holds (spelled es ++ entry.spell e ∷ []) g
        × KeepsOthers (log_name ∷ []) a.folder g → Keeps base (es ++ e ∷ []) g
    pushed g h = keeps_pushed base es e a.folder g (stands a.folder reads) fresh h.1 h.0

-- what follows at Ok from what stands at Ok
pub on_ok : {T E P Q S : Type 0} (r : Result T E) → OnOk r P → OnOk r Q → (P → Q → S)
    → OnOk r S
on_ok (Ok x) p q f = f p q
on_ok (Err e) p q f = tt

pub appended_after : {T E : Type 0} (r : Result T E) (es : List Entry) (e : Entry) (a b : DiskState)
    → Leaves a a.folder
    → KeepsOthers (log_name ∷ []) a.folder b.folder
    → OnOk r (Holds (spelled es ++ entry.spell e ∷ []) b.folder)
    → OnOk r (LeavesOnly b.folder b) → OnOk r (Added es e a b)
appended_after r es e a b reads others held only =
    on_ok r held only (λ h o base stands fresh image left.
    subst (Keeps base (es ++ e ∷ [])) (sym (o image left))
    (keeps_pushed base es e a.folder b.folder (stands a.folder reads) fresh others h))

pub added_agreed : (es : List Entry) (e : Entry) (a b : DiskState) → Leaves a a.folder
    → Agreed es a → Added es e a b → Agreed (es ++ e ∷ []) b
added_agreed es e a b reads agreed added = (
  as_read agreed.0 a.folder,
  added (as_read agreed.0 a.folder) (keeps_as_read agreed.0 es a reads agreed.1)
      (λ v kept names. refl),
)
