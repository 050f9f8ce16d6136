-- Notes, one after the other.
use Rattle.std.proofs.Common.{◌≡◌, ℕ, ◌+◌, ◌<◌, ◌≤◌, List, [], ◌∷◌, ◌++◌, length, drop, map, get_or, Option, Some, None, refl, sym, ap, ◌∙◌, append_assoc, arith, min, ◌⊎◌, inl, inr}
use Rattle.std.proofs.lemmas.List.{drop_more, drop_all, append-nil}
use Rattle.std.proofs.lemmas.Bool.{cases_lt}
use Rattle.gs_tree.specs.declared.tree.Var.{Var}
use Rattle.gs_tree.specs.View.{var_of}
use Rattle.gs_types.specs.declared.note.Note.{Note}
use Rattle.gs_types.specs.declared.note.VarNote.{VarNote}
use Rattle.gs_talk.specs.declared.slot.Slot.{Slot}
use Rattle.gs_pieces.specs.Notes.{note_in, noted_first, notes_of}

first_then : (name : List ℕ) (note : Option Note) (more : List VarNote) → noted_first name note more ≡ noted_first name note [] ++ more
first_then name None more = refl
first_then name (Some n) more = refl

pub notes_more : (vars : List Var) (slots : List Slot) (k : ℕ) (v : Var) (s : Slot) (so_far all : List VarNote) → k < length vars → k < length slots → v ≡ get_or vars k v → s ≡ get_or slots k s →
    so_far ++ notes_of (map var_of (drop k vars)) (drop k slots) ≡ all → (so_far ++ noted_first v.name.name.items (note_in v.kind s) []) ++ notes_of (map var_of (drop (k + 1) vars)) (drop (k + 1) slots) ≡ all
notes_more vars slots k v s so_far all lv ls ev es was =
    let rest = notes_of (map var_of (drop (k + 1) vars)) (drop (k + 1) slots) in
    append_assoc so_far (noted_first v.name.name.items (note_in v.kind s) []) rest
    ∙ ap (λ (xs : List VarNote). so_far ++ xs)
    (sym (first_then v.name.name.items (note_in v.kind s) rest)
    ∙ ap (λ (x : Var). noted_first x.name.name.items (note_in x.kind s) rest) ev
    ∙ ap (λ (y : Slot). noted_first (get_or vars k v).name.name.items (note_in (get_or vars k v).kind y) rest) es
    ∙ sym (ap (λ (xs : List Var). notes_of (map var_of xs) (drop k slots)) (drop_more vars k v lv)
    ∙ ap (λ (ys : List Slot). notes_of (map var_of (get_or vars k v ∷ drop (k + 1) vars)) ys) (drop_more slots k s ls)))
    ∙ was

no_slots : (vars : List Var) → notes_of (map var_of vars) [] ≡ []
no_slots [] = refl
no_slots (v ∷ vars) = refl

pub notes_end : (vars : List Var) (slots : List Slot) (k : ℕ) (so_far all : List VarNote) → min (length vars) (length slots) ≤ k → so_far ++ notes_of (map var_of (drop k vars)) (drop k slots) ≡ all → so_far ≡ all
notes_end vars slots k so_far all past was = at (cases_lt k (length vars)) where
  at : (k < length vars) ⊎ (length vars ≤ k) → so_far ≡ all
  at (inl lt) = sym (append-nil so_far) ∙ ap (λ (xs : List VarNote). so_far ++ xs) (sym (ap (λ (ys : List Slot). notes_of (map var_of (drop k vars)) ys) (drop_all k slots (omega (arith, past))) ∙ no_slots (drop k vars))) ∙ was
  at (inr ge) = sym (append-nil so_far) ∙ ap (λ (xs : List VarNote). so_far ++ xs) (sym (ap (λ (ys : List Var). notes_of (map var_of ys) (drop k slots)) (drop_all k vars ge))) ∙ was
