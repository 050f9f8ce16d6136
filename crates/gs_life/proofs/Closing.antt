-- Results that are brought back: the user's files are those that the sequential run leaves.
use Rattle.std.proofs.Common.{◌≡◌, ◌≢◌, ℕ, zero, suc, Bool, true, false, List, [], ◌∷◌, ◌++◌, Some, refl, sym, ap, subst, ◌∙◌, inl, inr, ◌⊎◌, arith}
use Rattle.std.specs.Prelude.{All, ◌||◌, map, bytes_eq, option_map, slice_get, slice_index_or, if◌then◌else◌}
use Rattle.std.specs.List.{list_any}
use Rattle.std.proofs.lemmas.Slice.Eq.{bytes_eq-Decides}
use Rattle.gs_types.specs.declared.note.Version.{Version}
use Rattle.gs_types.specs.declared.note.Version.TheVariants.{Original}
use Rattle.gs_types.specs.declared.note.FinalNote.{FinalNote}
use Rattle.gs_idl.specs.Interface.{KeepRules}
use Rattle.gs_disk.specs.Folder.{Folder, Outside, KeepsOthers}
use Rattle.gs_entries.specs.Entries.{entry}
use Rattle.gs_entries.specs.Order.{follows}
use Rattle.gs_entries.specs.declared.entry.Entry.{Entry}
use Rattle.gs_entries.specs.declared.entry.Entry.TheVariants as made
use Rattle.gs_entries.specs.declared.entry.GateNote.{GateNote}
use Rattle.gs_entries.specs.declared.entry.Stage.TheVariants as stages
use Rattle.gs_store.specs.Names.{version_name}
use Rattle.gs_store.specs.Keeps.{Keeps, KeepsEither}
use Rattle.gs_back.specs.Finals.{AreSet, names_of, finals_in}
use Rattle.gs_names.specs.Writes.{with_name}
use Rattle.gs_talk.specs.Seq.{Known}
use Rattle.gs_talk_laws.specs.Versions.{Written, latest_from, writings, version_value}
use Rattle.gs_talk_laws.proofs.Stays.{files_are_versions}
use Rattle.gs_history.specs.Setup.{Setup, world_at}
use Rattle.gs_tables.specs.Gate.{IsFinal, AreFinals, written_names}
use Rattle.gs_tables.specs.Marks.{with_names}
use Rattle.gs_life.specs.Origin.{Origin, contents}
use Rattle.gs_life.specs.Standing.{as_in, as_in_but}
use Rattle.gs_life.specs.Stands.{IsGateOf, IsHeld, OthersAre, AreLeft, IsGated, IsClosed, Stands, Gated, Closed}
use Rattle.gs_life.proofs.Images.{are_pushed, stage_after}
use Rattle.gs_life.proofs.Gating.{final_names, gate_stays, gated_kept, gated_image, closed_kept}

-- ---- names that weren't written

pub outside_left : (x : List ℕ) (xs ys : List (List ℕ)) → Outside (xs ++ ys) x → Outside xs x
outside_left x [] ys out = tt
outside_left x (z ∷ xs) ys out = (out.0, outside_left x xs ys out.1)

pub outside_right : (x : List ℕ) (xs ys : List (List ℕ)) → Outside (xs ++ ys) x → Outside ys x
outside_right x [] ys out = out
outside_right x (z ∷ xs) ys out = outside_right x xs ys out.1

outside_last : (x y : List ℕ) (xs : List (List ℕ)) → Outside (xs ++ y ∷ []) x → x ≢ y
outside_last x y [] out = out.0
outside_last x y (z ∷ xs) out = outside_last x y xs out.1

outside_one : (x y : List ℕ) (xs : List (List ℕ)) → Outside (with_name xs y) x → Outside xs x
outside_one x y xs out = by_test (list_any (bytes_eq y) xs) out
  where
    by_test : (b : Bool) → Outside (if b then xs else xs ++ y ∷ []) x → Outside xs x
    by_test true out = out
    by_test false out = outside_left x xs (y ∷ []) out

outside_all : (x : List ℕ) (xs ys : List (List ℕ)) → Outside (with_names xs ys) x → Outside xs x
outside_all x xs [] out = out
outside_all x xs (y ∷ ys) out = outside_one x y xs (outside_all x (with_name xs y) ys out)

-- two names are the same, or they differ
alike : (x y : List ℕ)
    → ((bytes_eq x y ≡ true) × (x ≡ y)) ⊎ ((bytes_eq x y ≡ false) × (x ≢ y))
alike x y = by_test (bytes_eq x y) refl
  where
    by_test : (b : Bool) → bytes_eq x y ≡ b
        → ((bytes_eq x y ≡ true) × (x ≡ y)) ⊎ ((bytes_eq x y ≡ false) × (x ≢ y))
    by_test true e = inl (e, (bytes_eq-Decides x y).0 e)
    by_test false e = inr (e, λ same. let is = (bytes_eq-Decides x y).1 same in absurd cc)

among_not : (x : List ℕ) (xs : List (List ℕ)) → list_any (bytes_eq x) xs ≡ true → Outside xs x → ⊥
among_not x [] is out = absurd cc
among_not x (y ∷ xs) is out = elim (alike x y) [
  | inl same ↦ out.0 same.1
  | inr other ↦ among_not x xs
      (sym (ap (λ (b : Bool). b || list_any (bytes_eq x) xs) other.0) ∙ is) out.1
]

not_added : (x y : List ℕ) (xs : List (List ℕ)) (b : Bool) → list_any (bytes_eq y) xs ≡ b
    → Outside (if b then xs else xs ++ y ∷ []) x → x ≢ y
not_added x y xs true e out = λ same.
    among_not x xs (ap (λ (z : List ℕ). list_any (bytes_eq z) xs) same ∙ e) out
not_added x y xs false e out = outside_last x y xs out

not_the_one : (x y : List ℕ) (xs : List (List ℕ)) → Outside (with_name xs y) x → x ≢ y
not_the_one x y xs out = not_added x y xs (list_any (bytes_eq y) xs) refl out

unwritten : (x : List ℕ) (v : Version) (acc : List (List ℕ)) (ws : List Written)
    → Outside (with_names acc (map (λ (w : Written). w.name) ws)) x → latest_from v x ws ≡ v
unwritten x v acc [] out = refl
unwritten x v acc (w ∷ ws) out = elim (alike w.name x) [
  | inl same ↦ absurd (not_the_one x w.name acc
      (outside_all x (with_name acc w.name) (map (λ (u : Written). u.name) ws) out) (sym same.1))
  | inr other ↦
      ap (λ (b : Bool). latest_from (if b then w.version else v) x ws) other.0
      ∙ unwritten x v (with_name acc w.name) ws out
]

-- ---- the user's files

-- what a list has at a place that it has
at_place : (names : List (List ℕ)) (i : ℕ) (x : List ℕ) → slice_get names i ≡ Some x
    → slice_index_or names i [] ≡ x
at_place [] i x is = absurd cc
at_place (y ∷ names) zero x is = cc
at_place (y ∷ names) (suc i) x is = at_place names i x is

finals_names : (s : Setup) (k : ℕ) (names xs : List (List ℕ)) (fs : List FinalNote)
    → AreFinals s k names xs fs → names_of (finals_in names fs) ≡ xs
finals_names s k names [] [] are = refl
finals_names s k names [] (f ∷ fs) are = absurd are
finals_names s k names (x ∷ xs) [] are = absurd are
finals_names s k names (x ∷ xs) (f ∷ fs) are =
    ap (λ (l : List (List ℕ)). slice_index_or names f.name [] ∷ l)
    (finals_names s k names xs fs are.1)
    ∙ ap (λ (y : List ℕ). y ∷ xs) (at_place names f.name x are.0.name)

set_here : (s : Setup) (k : ℕ) (names : List (List ℕ)) (y : List ℕ) (g : FinalNote) (f h : Folder)
    → IsFinal s k names y g → IsHeld s k f g
    → h (slice_index_or names g.name []) ≡ f (version_name g.version)
    → contents h y ≡ (world_at s k).files y
set_here s k names y g f h final held set =
    let reads : h y ≡ Some final.bytes =
    ap h (sym (at_place names g.name y final.name)) ∙ set
    ∙ held final.bytes final.content in
    ap (option_map Known) reads ∙ sym final.content
    ∙ ap (version_value s.run.files (world_at s k)) final.version
    ∙ sym (files_are_versions s.run k y)

first_held : (s : Setup) (k : ℕ) (f : Folder) (g : FinalNote) (fs : List FinalNote)
    → All (IsHeld s k f) (g ∷ fs) → IsHeld s k f g
first_held s k f g fs held = held 0 g (omega arith)

later_held : (s : Setup) (k : ℕ) (f : Folder) (g : FinalNote) (fs : List FinalNote)
    → All (IsHeld s k f) (g ∷ fs) → All (IsHeld s k f) fs
later_held s k f g fs held j d lt = held (suc j) d (omega (arith, lt))

left_file : (s : Setup) (k : ℕ) (names xs : List (List ℕ)) (fs : List FinalNote) (f h : Folder)
    (x : List ℕ) → AreFinals s k names xs fs → All (IsHeld s k f) fs
    → AreSet (finals_in names fs) f h
    → (Outside xs x → contents h x ≡ (world_at s k).files x)
    → contents h x ≡ (world_at s k).files x
left_file s k names [] [] f h x are held set other = other tt
left_file s k names [] (g ∷ fs) f h x are held set other = absurd are
left_file s k names (y ∷ xs) [] f h x are held set other = absurd are
left_file s k names (y ∷ xs) (g ∷ fs) f h x are held set other = elim (alike x y) [
  | inl same ↦
      subst (λ (z : List ℕ). contents h z ≡ (world_at s k).files z) (sym same.1)
      (set_here s k names y g f h are.0 (first_held s k f g fs held) set.0)
  | inr differs ↦
      left_file s k names xs fs f h x are.1 (later_held s k f g fs held) set.1
      (λ out. other (differs.1, out))
]

-- each final was set as its version reads, and no other file changed
pub back_left : (o : Origin) (f h : Folder) (g : GateNote) → (gate : IsGateOf o f g)
    → OthersAre o f g → AreSet (finals_in g.names g.finals) f h
    → KeepsOthers (final_names g) f h → AreLeft gate.setup gate.questions h
back_left o f h g gate others set kept x user =
    let s = gate.setup in
    let k = gate.questions in
    let xs = written_names (writings s.run k) in
    let are = gate.says.gated.finals_are in
    left_file s k g.names xs g.finals f h x are gate.held set
    (λ out.
    let mine : Outside (final_names g) x =
    subst (λ (l : List (List ℕ)). Outside l x)
    (sym (finals_names s k g.names xs g.finals are)) out in
    ap (option_map Known) (kept.each x mine ∙ others x user mine)
    ∙ sym (ap (λ r. r.files x) gate.run_is)
    ∙ ap (version_value s.run.files (world_at s k))
    (sym (unwritten x (Original x) [] (writings s.run k) out))
    ∙ sym (files_are_versions s.run k x))

-- ---- the last entry

pub closed_pushed : (o : Origin) (es : List Entry) (f : Folder)
    → entry.fits made.Closed ≡ true → follows es made.Closed ≡ true → (r : IsGated o f es)
    → AreLeft r.gate.setup r.gate.questions f → IsClosed o f (es ++ made.Closed ∷ [])
closed_pushed o es f fits may r left = record {
  stage = stage_after es made.Closed stages.Gated r.stage;
  are = are_pushed o es made.Closed f fits may tt r.are;
  note = r.note;
  noted = gate_stays es made.Closed r.note r.noted;
  gate = r.gate;
  left = left;
}

-- ---- images

pub image_gated : (o : Origin) → KeepRules o.given.ops → (es : List Entry) (f image : Folder)
    → (r : IsGated o f es) → Keeps (as_in_but (final_names r.note) f) es image → Stands o image
image_gated o rules es f image r k = Gated es k.entries (gated_image o rules es f image r k)

-- while the last entry is added
pub closing_image : (o : Origin) → KeepRules o.given.ops → (es : List Entry) (f image : Folder)
    → IsGated o f es → IsClosed o f (es ++ made.Closed ∷ [])
    → KeepsEither (as_in f) es made.Closed image → Stands o image
closing_image o rules es f image r c (inl k) = Gated es k.entries
    (gated_kept o rules es f image r k.versions (λ x user out. k.user_files x user tt))
closing_image o rules es f image r c (inr k) = Closed (es ++ made.Closed ∷ []) k.entries
    (closed_kept o rules (es ++ made.Closed ∷ []) f image c k.versions
    (λ x user. k.user_files x user tt))
