-- What an image keeps of a store.
use Rattle.std.specs.Prelude.{◌≡◌, ◌≢◌, ◌⊎◌, ℕ, List, [], ◌∷◌, ◌++◌, map, Option, None}
use Rattle.std.proofs.Common.{⊎_elim, inl, inr, sym, ◌∙◌, subst, refl, ap}
use Rattle.gs_types.specs.declared.note.Version.{Version}
use Rattle.gs_disk.specs.Folder.{Folder, Outside, KeepsOthers}
use Rattle.gs_disk.specs.Going.{AreAmong}
use Rattle.gs_disk.specs.Name.{IsUser}
use Rattle.gs_log.specs.Names.{log_name, mark_name}
use Rattle.gs_log.specs.Holding.{Holds}
use Rattle.gs_log.specs.OneList.{stays_held}
use Rattle.gs_entries.specs.Entries.{entry}
use Rattle.gs_entries.specs.declared.entry.Entry.{Entry}
use Rattle.gs_store.specs.Names.{version_name, IsKept}
use Rattle.gs_store.specs.Versions.{Names, Named, named_push}
use Rattle.gs_store.specs.Apart.{log_not_version, mark_not_version, version_apart, user_not_version, user_not_log, user_not_mark}

-- the payloads of entries
unfoldable pub spelled : List Entry → List (List ℕ)
spelled es = map entry.spell es

pub spelled_push : (es : List Entry) (e : Entry)
    → spelled (es ++ e ∷ []) ≡ spelled es ++ entry.spell e ∷ []
unfolding spelled
spelled_push [] e = refl
spelled_push (f ∷ es) e = ap (λ (l : List (List ℕ)). entry.spell f ∷ l) (spelled_push es e)

-- the entries of a folder: those that its log spells, and none where it has no mark
abbrev pub HasEntries : List Entry → Folder → Type 0
HasEntries es folder = Holds (spelled es) folder ⊎ ((folder mark_name ≡ None) × (es ≡ []))

-- what a store's files are to be: the users', but for those under the free names, and the version
-- files
pub record Base : Type 0 where
  pub free : List (List ℕ)
  pub users : Folder
  pub outs : Version → Option (List ℕ)

-- these entries, the users' files, and the version files that the entries name
pub record Keeps (base : Base) (es : List Entry) (image : Folder) : Type 0 where
  pub entries : HasEntries es image
  pub user_files : (x : List ℕ) → IsUser x → Outside base.free x → image x ≡ base.users x
  pub versions : (v : Version) → IsKept v → Named v es
      → image (version_name v) ≡ base.outs v

abbrev pub KeepsEither : Base → List Entry → Entry → Folder → Type 0
KeepsEither base es e image = Keeps base es image ⊎ Keeps base (es ++ e ∷ []) image

-- ---- what keeps it

has_stayed : (es : List Entry) (f g : Folder) → g mark_name ≡ f mark_name
    → g log_name ≡ f log_name → HasEntries es f → HasEntries es g
has_stayed es f g mark log (inl h) = inl (stays_held (spelled es) f g mark log h)
has_stayed es f g mark log (inr none) = inr (mark ∙ none.0, none.1)

-- a version file that no entry names may become anything
pub keeps_unnamed : (base : Base) (es : List Entry) (v : Version) (f g : Folder) → IsKept v
    → (Named v es → ⊥) → Keeps base es f → KeepsOthers (version_name v ∷ []) f g
    → Keeps base es g
keeps_unnamed base es v f g kept unnamed k step = record {
  entries =
      has_stayed es f g (step.each mark_name (mark_not_version v kept, tt))
      (step.each log_name (log_not_version v kept, tt)) k.entries;
  user_files = λ x user out. step.each x (user_not_version x v kept user, tt)
      ∙ k.user_files x user out;
  versions =
      λ w there named. step.each (version_name w) (
        version_apart w v there kept
            (λ same. unnamed (subst (λ (u : Version). Named u es) same named)),
        tt,
      )
      ∙ k.versions w there named;
}

-- other entries, where all else is the same
pub keeps_logged : (base : Base) (es : List Entry) (f g : Folder) → Keeps base es f
    → KeepsOthers (log_name ∷ []) f g → Holds (spelled es) g → Keeps base es g
keeps_logged base es f g k step held = record {
  entries = inl held;
  user_files = λ x user out. step.each x (user_not_log x user, tt) ∙ k.user_files x user out;
  versions =
      λ w there named. step.each (version_name w) (λ same. log_not_version w there (sym same), tt)
      ∙ k.versions w there named;
}

-- one entry more, where the files that it names read as they are to be
pub keeps_pushed : (base : Base) (es : List Entry) (e : Entry) (f g : Folder) → Keeps base es f
    → ((v : Version) → IsKept v → Names v e → f (version_name v) ≡ base.outs v)
    → KeepsOthers (log_name ∷ []) f g → Holds (spelled es ++ entry.spell e ∷ []) g
    → Keeps base (es ++ e ∷ []) g
keeps_pushed base es e f g k fresh step held = record {
  entries = inl (subst (λ (l : List (List ℕ)). Holds l g) (sym (spelled_push es e)) held);
  user_files = λ x user out. step.each x (user_not_log x user, tt) ∙ k.user_files x user out;
  versions =
      λ w there named. step.each (version_name w) (λ same. log_not_version w there (sym same), tt)
      ∙ ⊎_elim (k.versions w there) (fresh w there) (named_push w es e named);
}

-- ---- the users' files

-- each is the name of a user's file
abbrev pub AreUsers : List (List ℕ) → Type 0
AreUsers [] = Unit {0}
AreUsers (x ∷ xs) = IsUser x × AreUsers xs

-- a name that no user's file has is none of these
pub outside_users : (names : List (List ℕ)) (x : List ℕ) → AreUsers names
    → ((u : List ℕ) → IsUser u → u ≢ x) → Outside names x
outside_users [] x users apart = tt
outside_users (u ∷ names) x users apart =
    (λ same. apart u users.0 (sym same), outside_users names x users.1 apart)

-- users' files that are free may become anything
pub keeps_free : (base : Base) (es : List Entry) (names : List (List ℕ)) (f g : Folder)
    → AreUsers names → AreAmong names base.free → Keeps base es f → KeepsOthers names f g
    → Keeps base es g
keeps_free base es names f g users free k step = record {
  entries =
      has_stayed es f g (step.each mark_name (outside_users names mark_name users user_not_mark))
      (step.each log_name (outside_users names log_name users user_not_log)) k.entries;
  user_files = λ x own out. step.each x (free x out) ∙ k.user_files x own out;
  versions = λ w there named. step.each (version_name w)
      (outside_users names (version_name w) users (λ u user. user_not_version u w there user))
      ∙ k.versions w there named;
}
