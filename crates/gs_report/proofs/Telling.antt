-- Lines of entries and of finals that are written one after the other.
use Rattle.std.proofs.Common.{◌≡◌, ℕ, suc, ◌+◌, ◌<◌, ◌≤◌, List, [], ◌∷◌, ◌++◌, length, get_or, take, drop, drop-cons, Option, Some, None, refl, sym, ap, subst, ◌∙◌, ⊎_elim}
use Rattle.std.proofs.lemmas.List.{take_more, take-append-drop, take_all, flat_map_more}
use Rattle.std.proofs.lemmas.Option.{slice_get_within, slice_get_cases, get_or_from_slice_get}
use Rattle.std.specs.Prelude.{slice_get}
use Rattle.std.specs.List.{flat_map}
use Rattle.gs_types.specs.declared.note.Version.{Version}
use Rattle.gs_types.specs.declared.note.FinalNote.{FinalNote}
use Rattle.gs_disk.specs.Folder.{Folder}
use Rattle.gs_store.specs.Versions.{Kept, IsStanding, AllStand, finals_kept, len_of, IsFirstLost}
use Rattle.gs_store.specs.Loading.{RefusesFile, RefusesFiles}
use Rattle.gs_store.specs.declared.err.StoreErr.{StoreErr}
use Rattle.gs_store.specs.declared.err.StoreErr.TheVariants.{BadLog, BadRecord, LostVersion, DiskFault, NoMemory}
use Rattle.gs_report.specs.Report.{file_line}

-- ---- any list

-- one line more
pub line_more : {X : Type 0} (line : X → List ℕ) (xs : List X) (i : ℕ) (x : X)
    (old text new : List ℕ) → i < length xs → x ≡ get_or xs i x
    → text ≡ old ++ flat_map line (take i xs) → new ≡ text ++ line x
    → new ≡ old ++ flat_map line (take (i + 1) xs)
line_more {X = X} line xs i x old text new lt is so step =
    step ∙ ap (λ (l : List ℕ). l ++ line x) so
    ∙ flat_map_more line old (take i xs) x
    ∙ ap (λ (l : List X). old ++ flat_map line l)
    (sym (take_more xs i x lt ∙ ap (λ (y : X). take i xs ++ y ∷ []) (sym is)))

pub within : {X : Type 0} (xs : List X) (i : ℕ) (x : X) → Some x ≡ slice_get xs i
    → i < length xs
within xs i x is = slice_get_within xs i x (sym is)

pub item : {X : Type 0} (xs : List X) (i : ℕ) (x : X) → Some x ≡ slice_get xs i
    → x ≡ get_or xs i x
item xs i x is = sym (get_or_from_slice_get xs i x x (sym is))

-- none is behind the last
ends : {X : Type 0} (xs : List X) (i : ℕ) → None ≡ slice_get xs i → length xs ≤ i
ends xs i none =
    ⊎_elim (λ h. let no = none ∙ h.2 in absurd cc) (λ h. h.0) (slice_get_cases xs i).1

pub written : {X : Type 0} (line : X → List ℕ) (xs : List X) (i : ℕ) (old text : List ℕ)
    → None ≡ slice_get xs i → text ≡ old ++ flat_map line (take i xs)
    → text ≡ old ++ flat_map line xs
written {X = X} line xs i old text none so =
    so ∙ ap (λ (l : List X). old ++ flat_map line l) (take_all i xs (ends xs i none))

-- ---- finals

kept_push : (fs : List FinalNote) (f : FinalNote)
    → finals_kept (fs ++ f ∷ []) ≡ finals_kept fs ++ (f.version, f.len) ∷ []
kept_push [] f = refl
kept_push (x ∷ fs) f = ap (λ (l : List Kept). (x.version, x.len) ∷ l) (kept_push fs f)

stand_push : (folder : Folder) (fs : List FinalNote) (f : FinalNote)
    → AllStand folder (finals_kept fs) → IsStanding folder f.version f.len
    → AllStand folder (finals_kept (fs ++ f ∷ []))
stand_push folder [] f all is = (is, tt)
stand_push folder (x ∷ fs) f all is = (all.0, stand_push folder fs f all.1 is)

pub stand_more : (folder now : Folder) (fs : List FinalNote) (i : ℕ) (f : FinalNote)
    → i < length fs → f ≡ get_or fs i f → now ≡ folder → IsStanding now f.version f.len
    → AllStand folder (finals_kept (take i fs)) → AllStand folder (finals_kept (take (i + 1) fs))
stand_more folder now fs i f lt is same stands all =
    let here : IsStanding folder f.version f.len
    = subst (λ (d : Folder). IsStanding d f.version f.len) same stands in
    let more : take (i + 1) fs ≡ take i fs ++ f ∷ []
    = take_more fs i f lt ∙ ap (λ (y : FinalNote). take i fs ++ y ∷ []) (sym is) in
    subst (λ (l : List FinalNote). AllStand folder (finals_kept l)) (sym more)
    (stand_push folder (take i fs) f all here)

-- the finals before a place, the one there, and those behind it
kept_parts : (fs : List FinalNote) (i : ℕ) (f : FinalNote) → i < length fs → f ≡ get_or fs i f
    → finals_kept fs
    ≡ finals_kept (take i fs) ++ (f.version, f.len) ∷ finals_kept (drop (suc i) fs)
kept_parts fs i f lt is =
    ap finals_kept (sym (take-append-drop i fs)
    ∙ ap (λ (l : List FinalNote). take i fs ++ l) (drop-cons fs i f lt
    ∙ ap (λ (y : FinalNote). y ∷ drop (suc i) fs) (sym is)))
    ∙ kept_append (take i fs) (f ∷ drop (suc i) fs)
  where
    kept_append : (xs ys : List FinalNote)
        → finals_kept (xs ++ ys) ≡ finals_kept xs ++ finals_kept ys
    kept_append [] ys = refl
    kept_append (x ∷ xs) ys = ap (λ (l : List Kept). (x.version, x.len) ∷ l) (kept_append xs ys)

pair_is : (v w : Version) (n m : ℕ) → v ≡ w → n ≡ m → let a : Kept = (v, n) in
    let b : Kept = (w, m) in a ≡ b
pair_is v w n m p q = λ i. (p i, q i)

lost_at : (folder : Folder) (fs : List FinalNote) (i : ℕ) (f : FinalNote) (v : Version) (kept : ℕ)
    (found : Option ℕ) → i < length fs → f ≡ get_or fs i f
    → RefusesFile folder f.version f.len (LostVersion v kept found)
    → AllStand folder (finals_kept (take i fs))
    → IsFirstLost folder (finals_kept fs) v kept found
lost_at folder fs i f v kept found lt is h all = record {
  before = finals_kept (take i fs);
  behind = finals_kept (drop (suc i) fs);
  parts = kept_parts fs i f lt is
      ∙ ap (λ (k : Kept). finals_kept (take i fs) ++ k ∷ finals_kept (drop (suc i) fs))
      (sym (pair_is v f.version kept f.len h.0 h.1));
  fine = all;
  is = h.2 ∙ ap (len_of folder) (sym h.0);
  lost = λ e. h.3 (e ∙ ap (λ (n : ℕ). Some n) h.1);
}

pub refuses_more : (folder now : Folder) (fs : List FinalNote) (i : ℕ) (f : FinalNote)
    (e : StoreErr) → i < length fs → f ≡ get_or fs i f → now ≡ folder
    → RefusesFile now f.version f.len e → AllStand folder (finals_kept (take i fs))
    → RefusesFiles folder (finals_kept fs) e
refuses_more folder now fs i f (BadLog at) lt is same h all = h
refuses_more folder now fs i f (BadRecord index) lt is same h all = h
refuses_more folder now fs i f (LostVersion v kept found) lt is same h all =
    lost_at folder fs i f v kept found lt is
    (subst (λ (d : Folder). RefusesFile d f.version f.len (LostVersion v kept found)) same h) all
refuses_more folder now fs i f DiskFault lt is same h all = tt
refuses_more folder now fs i f NoMemory lt is same h all = tt

pub file_more : (folder now : Folder) (names : List (List ℕ)) (fs : List FinalNote) (i : ℕ)
    (f : FinalNote) (old text new : List ℕ) → i < length fs → f ≡ get_or fs i f → now ≡ folder
    → text ≡ old ++ flat_map (file_line folder names) (take i fs)
    → new ≡ text ++ file_line now names f
    → new ≡ old ++ flat_map (file_line folder names) (take (i + 1) fs)
file_more folder now names fs i f old text new lt is same so step =
    line_more (file_line folder names) fs i f old text new lt is so
    (step ∙ ap (λ (d : Folder). text ++ file_line d names f) same)
