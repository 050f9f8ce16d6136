-- What a gate that is within the limits says of its finals.
use Rattle.std.proofs.Common.{◌≡◌, ◌≢◌, ℕ, zero, suc, ◌+◌, ◌<◌, ◌≤◌, ◌^◌, Bool, true, false, not, ◌&&◌, List, [], ◌∷◌, ◌++◌, length, get_or, take, refl, sym, ap, subst, ◌∙◌, arith}
use Rattle.std.specs.Prelude.{◌||◌, nat_le, nat_lt, bytes_eq, slice_index_or}
use Rattle.std.specs.List.{list_any}
use Rattle.std.proofs.lemmas.Bool.{leb-true, ltb-true}
use Rattle.std.proofs.lemmas.List.Folds.{list_any-append}
use Rattle.std.proofs.lemmas.Slice.Eq.{bytes_eq-Decides}
use Rattle.gs_types.specs.NameTest.{is_name, name_takes}
use Rattle.gs_types.specs.Name.{IsName}
use Rattle.gs_types.specs.declared.limits.TheConstants.{FILE_LIMIT, ACTION_LIMIT, TASK_LIMIT, PARAMETER_LIMIT}
use Rattle.gs_types.specs.declared.note.FinalNote.{FinalNote}
use Rattle.gs_types.specs.declared.note.Version.{Version}
use Rattle.gs_types.specs.declared.note.Version.TheVariants as versions
use Rattle.gs_disk.specs.Folder.{Outside}
use Rattle.gs_disk.specs.Name.{IsUser}
use Rattle.gs_fields.specs.Format.{Format, byte, four, eight, bytes, all_fit}
use Rattle.gs_entries.specs.Entries.{entry}
use Rattle.gs_entries.specs.Notes.{within, name, task, place, file_len, version, final}
use Rattle.gs_entries.specs.Gate.{ends_once, calls_in, named_in, written_in, numbers, distinct_after, first_writing, finals_rise, gate_fields, gate_ok, gate}
use Rattle.gs_entries.specs.declared.entry.Entry.TheVariants as made
use Rattle.gs_entries.specs.declared.entry.GateNote.{GateNote}
use Rattle.gs_entries.proofs.Loop.{both, parts_fit}
use Rattle.gs_store.specs.Keeps.{AreUsers}
use Rattle.gs_store.specs.Names.{IsKept}
use Rattle.gs_back.specs.Finals.{finals_in, names_of}

-- what its finals rest on
pub record IsGate (g : GateNote) : Type 0 where
  pub names : all_fit name g.names ≡ true
  pub finals : all_fit final g.finals ≡ true
  pub distinct : distinct_after [] g.names ≡ true
  pub rise : finals_rise (length g.names) (written_in g.actions) 0 g.finals ≡ true

gate_so : (g : GateNote) → gate.fits g ≡ true → IsGate g
gate_so g e =
    let parts = parts_fit g e in
    let all = both (gate_fields.fits g) (gate_ok g) e in
    let rise = finals_rise (length g.names) (written_in g.actions) 0 g.finals in
    let distinct = distinct_after [] g.names in
    let a = both (ends_once false g.actions) (nat_le (calls_in g.actions) TASK_LIMIT
    && (numbers (named_in g.actions) (length g.names) && (distinct && rise))) all.1 in
    let b = both (nat_le (calls_in g.actions) TASK_LIMIT)
    (numbers (named_in g.actions) (length g.names) && (distinct && rise)) a.1 in
    let c = both (numbers (named_in g.actions) (length g.names)) (distinct && rise) b.1 in
    let d = both distinct rise c.1 in
    record {
      names = (both (four.fits (length g.names)) (all_fit name g.names) parts.names_fit).1;
      finals = (both (four.fits (length g.finals)) (all_fit final g.finals) parts.finals_fit).1;
      distinct = d.0;
      rise = d.1;
    }

pub is_gate : (g : GateNote) → entry.fits (made.Gate g) ≡ true → IsGate g
unfolding entry
is_gate g fits = gate_so g fits

fit_at : {A : Type 0} (f : Format A) (xs : List A) (i : ℕ) (d : A) → all_fit f xs ≡ true
    → i < length xs → f.fits (get_or xs i d) ≡ true
fit_at f [] i d e lt = absurd (omega arith)
fit_at f (x ∷ xs) zero d e lt = (both (f.fits x) (all_fit f xs) e).0
fit_at f (x ∷ xs) (suc i) d e lt =
    fit_at f xs i d (both (f.fits x) (all_fit f xs) e).1 (omega arith)

kept_version : (v : Version) → version.fits v ≡ true → IsKept v
kept_version (versions.Original x) e = absurd cc
kept_version (versions.Out n k) e =
    let parts = both (task.fits n) (place.fits k) e in
    let a = both (four.fits n) (within 1 TASK_LIMIT n) parts.0 in
    let b = both (byte.fits k) (within 1 PARAMETER_LIMIT k) parts.1 in
    (ltb-true n (2 ^ 32) a.0, ltb-true k 256 b.0)
kept_version (versions.Main k) e =
    ltb-true k (2 ^ 32) (both (four.fits k) (within 1 ACTION_LIMIT k) e).0

short_file : (len : ℕ) → file_len.fits len ≡ true → len ≤ FILE_LIMIT
short_file len e = leb-true len FILE_LIMIT (both (eight.fits len) (nat_le len FILE_LIMIT) e).1

pub record IsFinal (f : FinalNote) : Type 0 where
  pub kept : IsKept f.version
  pub small : f.len ≤ FILE_LIMIT

final_so : (f : FinalNote) → final.fits f ≡ true → IsFinal f
final_so f e =
    let a = both (four.fits f.name) (version.fits f.version && file_len.fits f.len) e in
    let b = both (version.fits f.version) (file_len.fits f.len) a.1 in
    record { kept = kept_version f.version b.0; small = short_file f.len b.1 }

pub is_final : (g : GateNote) (i : ℕ) (f : FinalNote) → IsGate g → i < length g.finals
    → f ≡ get_or g.finals i f → IsFinal f
is_final g i f gate lt is =
    final_so f (ap final.fits is ∙ fit_at final g.finals i f gate.finals lt)

-- ---- names differ

not_true : (b : Bool) → not b ≡ true → b ≡ false
not_true true e = absurd cc
not_true false e = refl

or_false : (a b : Bool) → (a || b) ≡ false → (a ≡ false) × (b ≡ false)
or_false true b e = absurd cc
or_false false b e = (refl, e)

none_in : (y : List ℕ) (before : List (List ℕ)) (x : List ℕ)
    → list_any (bytes_eq y) (before ++ x ∷ []) ≡ false
    → (list_any (bytes_eq y) before ≡ false) × (bytes_eq y x ≡ false)
none_in y before x e =
    let parts = or_false (list_any (bytes_eq y) before) (list_any (bytes_eq y) (x ∷ []))
    (sym (list_any-append (bytes_eq y) before (x ∷ [])) ∙ e) in
    (parts.0, (or_false (bytes_eq y x) false parts.1).0)

is_not : (y x : List ℕ) → bytes_eq y x ≡ false → y ≢ x
is_not y x apart same = let equal = (bytes_eq-Decides y x).1 same in absurd cc

-- a name behind those that one was seen among differs from it
later_differs : (before names : List (List ℕ)) (x : List ℕ) (j : ℕ)
    → ((y : List ℕ) → list_any (bytes_eq y) before ≡ false → y ≢ x)
    → distinct_after before names ≡ true → j < length names
    → slice_index_or names j [] ≢ x
later_differs before [] x j seen e lt = absurd (omega arith)
later_differs before (y ∷ ys) x zero seen e lt =
    let parts = both (not (list_any (bytes_eq y) before)) (distinct_after (before ++ y ∷ []) ys) e
    in seen y (not_true (list_any (bytes_eq y) before) parts.0)
later_differs before (y ∷ ys) x (suc j) seen e lt =
    let parts = both (not (list_any (bytes_eq y) before)) (distinct_after (before ++ y ∷ []) ys) e
    in later_differs (before ++ y ∷ []) ys x j (λ z none. seen z (none_in z before y none).0)
    parts.1 (omega arith)

differ_below : (before names : List (List ℕ)) (i j : ℕ) → distinct_after before names ≡ true
    → i < j → j < length names → slice_index_or names j [] ≢ slice_index_or names i []
differ_below before [] i j e below lt = absurd (omega arith)
differ_below before (x ∷ xs) i zero e below lt = absurd (omega arith)
differ_below before (x ∷ xs) zero (suc j) e below lt =
    let parts = both (not (list_any (bytes_eq x) before)) (distinct_after (before ++ x ∷ []) xs) e
    in later_differs (before ++ x ∷ []) xs x j (λ y none. is_not y x (none_in y before x none).1)
    parts.1 (omega arith)
differ_below before (x ∷ xs) (suc i) (suc j) e below lt =
    let parts = both (not (list_any (bytes_eq x) before)) (distinct_after (before ++ x ∷ []) xs) e
    in differ_below (before ++ x ∷ []) xs i j parts.1 (omega arith) (omega arith)

same_number : (names : List (List ℕ)) (i j : ℕ) → distinct_after [] names ≡ true
    → i < length names → j < length names
    → slice_index_or names i [] ≡ slice_index_or names j [] → i ≡ j
same_number names i j distinct a b same =
    let low : i < j → ⊥ = λ lt. differ_below [] names i j distinct lt b (sym same) in
    let high : j < i → ⊥ = λ lt. differ_below [] names j i distinct lt a same in
    omega arith

-- ---- finals rise

rise_parts : (count low : ℕ) (written : List ℕ) (f : FinalNote) (fs : List FinalNote)
    → finals_rise count written low (f ∷ fs) ≡ true
    → (f.name < count) × (low ≤ first_writing written f.name)
    × (finals_rise count written (first_writing written f.name + 1) fs ≡ true)
rise_parts count low written f fs e =
    let at = first_writing written f.name in
    let rest = finals_rise count written (at + 1) fs in
    let a = both (nat_lt f.name count) (nat_le low at && (nat_lt at (length written) && rest)) e in
    let b = both (nat_le low at) (nat_lt at (length written) && rest) a.1 in
    let c = both (nat_lt at (length written)) rest b.1 in
    (ltb-true f.name count a.0, leb-true low at b.0, c.1)

rise_at : (count low : ℕ) (written : List ℕ) (fs : List FinalNote) (i : ℕ) (d : FinalNote)
    → finals_rise count written low fs ≡ true → i < length fs
    → ((get_or fs i d).name < count) × (low ≤ first_writing written (get_or fs i d).name)
rise_at count low written [] i d e lt = absurd (omega arith)
rise_at count low written (x ∷ fs) zero d e lt =
    let parts = rise_parts count low written x fs e in (parts.0, parts.1)
rise_at count low written (x ∷ fs) (suc i) d e lt =
    let parts = rise_parts count low written x fs e in
    let more = rise_at count (first_writing written x.name + 1) written fs i d parts.2
    (omega arith) in
    let a = parts.1 in let b = more.1 in
    (more.0, omega arith)

fresh_at : (names : List (List ℕ)) (low : ℕ) (written : List ℕ) (fs : List FinalNote)
    (i : ℕ)
    (d : FinalNote) → distinct_after [] names ≡ true
    → finals_rise (length names) written low fs ≡ true → i < length fs
    → Outside (names_of (finals_in names (take i fs)))
    (slice_index_or names (get_or fs i d).name [])
fresh_at names low written [] i d distinct e lt = absurd (omega arith)
fresh_at names low written (x ∷ fs) zero d distinct e lt = tt
fresh_at names low written (x ∷ fs) (suc i) d distinct e lt =
    let parts = rise_parts (length names) low written x fs e in
    let more = rise_at (length names) (first_writing written x.name + 1) written fs i d parts.2
    (omega arith) in
    let f = get_or fs i d in (
      λ same. let is = same_number names f.name x.name distinct more.0 parts.0 same in
          let at = ap (first_writing written) is in let above = more.1 in omega arith,
      fresh_at names (first_writing written x.name + 1) written fs i d distinct parts.2
          (omega arith),
    )

-- a final's name is none of those before it
pub fresh : (g : GateNote) (i : ℕ) (f : FinalNote) → IsGate g → i < length g.finals
    → f ≡ get_or g.finals i f
    → Outside (names_of (finals_in g.names (take i g.finals)))
    (slice_index_or g.names f.name [])
fresh g i f gate lt is =
    subst (λ (x : FinalNote). Outside (names_of (finals_in g.names (take i g.finals)))
    (slice_index_or g.names x.name [])) (sym is)
    (fresh_at g.names 0 (written_in g.actions) g.finals i f gate.distinct gate.rise lt)

-- and one of the gate's
pub name_within : (g : GateNote) (i : ℕ) (f : FinalNote) → IsGate g → i < length g.finals
    → f ≡ get_or g.finals i f → f.name < length g.names
name_within g i f gate lt is =
    subst (λ (x : FinalNote). x.name < length g.names) (sym is)
    (rise_at (length g.names) 0 (written_in g.actions) g.finals i f gate.rise lt).0

-- ---- the users' names

no_dot : (w rest : List ℕ) → IsName w → w ≡ 46 ∷ rest → ⊥
no_dot w rest is same =
    let first = subst (λ (x : List ℕ). IsName x) same is in
    let at = first.allowed 0 (omega arith) in absurd cc

-- a name is a user's
pub user_name : (w : List ℕ) → IsName w → IsUser w
user_name w is = record { undotted = λ rest same. no_dot w rest is same }

user_at : (names : List (List ℕ)) (i : ℕ) → all_fit name names ≡ true → i < length names
    → IsUser (slice_index_or names i [])
user_at names i fits lt =
    let x = slice_index_or names i [] in
    let at = both (bytes.fits x) (is_name x) (fit_at name names i [] fits lt) in
    user_name x (name_takes x at.1)

users_in : (names : List (List ℕ)) (low : ℕ) (written : List ℕ) (fs : List FinalNote)
    → all_fit name names ≡ true → finals_rise (length names) written low fs ≡ true
    → AreUsers (names_of (finals_in names fs))
users_in names low written [] fits e = tt
users_in names low written (f ∷ fs) fits e =
    let parts = rise_parts (length names) low written f fs e in (
      user_at names f.name fits parts.0,
      users_in names (first_writing written f.name + 1) written fs fits parts.2,
    )

pub users : (g : GateNote) → IsGate g → AreUsers (names_of (finals_in g.names g.finals))
users g gate = users_in g.names 0 (written_in g.actions) g.finals gate.names gate.rise
