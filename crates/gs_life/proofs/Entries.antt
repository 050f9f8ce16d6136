-- Entries in order, and the version files that they name.
use Rattle.std.proofs.Common.{◌≡◌, ℕ, zero, suc, ◌<◌, ◌^◌, Bool, true, List, [], ◌∷◌, ◌++◌, length, Option, Some, refl, sym, ap, subst, ◌∙◌, inl, inr}
use Rattle.std.specs.Prelude.{All, slice_index_or, if◌then◌else◌}
use Rattle.std.proofs.Math.Nat.{not-suc-le-zero, le_of_suc-le-suc}
use Rattle.std.proofs.lemmas.Bool.{ltb-true}
use Rattle.std.proofs.lemmas.Bool.Decides.{eqb_tells}
use Rattle.gs_types.specs.declared.note.Version.{Version}
use Rattle.gs_types.specs.declared.note.Version.TheVariants.{Out}
use Rattle.gs_types.specs.declared.note.Note.{Note}
use Rattle.gs_types.specs.declared.note.Note.TheVariants as note
use Rattle.gs_types.specs.declared.note.OutNote.{OutNote}
use Rattle.gs_fields.specs.Format.{byte, four, pair, counted, all_fit}
use Rattle.gs_entries.specs.Notes as notes
use Rattle.gs_entries.specs.Entries.{entry}
use Rattle.gs_entries.specs.declared.entry.Entry.{Entry}
use Rattle.gs_entries.specs.declared.entry.Entry.TheVariants as made
use Rattle.gs_entries.proofs.Loop.{both}
use Rattle.gs_store.specs.Names.{IsKept}
use Rattle.gs_store.specs.Ordered.{AreBehind, AreInOrder}
use Rattle.gs_store.specs.Versions.{kept_at, outs_kept, Among, Names, Named}
use Rattle.gs_tables.specs.Outs.{noted_at}

fits_behind : (before es : List Entry) → AreBehind before es → All (λ e. entry.fits e ≡ true) es
fits_behind before [] h k d lt = absurd (not-suc-le-zero lt)
fits_behind before (e ∷ es) h zero d lt = h.0
fits_behind before (e ∷ es) h (suc k) d lt =
    fits_behind (before ++ e ∷ []) es h.2 k d (le_of_suc-le-suc lt)

-- each entry that stands in order is within the limits
pub all_fits : (es : List Entry) → AreInOrder es → All (λ e. entry.fits e ≡ true) es
all_fits es order = fits_behind [] es order

-- what an entry names, the entries name
pub named_at : (es : List Entry) (v : Version) (k : ℕ) (d : Entry) → k < length es
    → Names v (slice_index_or es k d) → Named v es
named_at [] v k d lt names = absurd (not-suc-le-zero lt)
named_at (e ∷ es) v zero d lt names = inl names
named_at (e ∷ es) v (suc k) d lt names = inr (named_at es v k d (le_of_suc-le-suc lt) names)

-- ---- a file that is noted

abbrev file_of : ℕ → Option Note
file_of len = Some (note.File len)

kept_here : (n k len : ℕ) (v : Note) (more : List (Version × ℕ)) → Some v ≡ file_of len
    → Among (Out n k) (kept_at n k v more)
kept_here n k len (note.File other) more is = inl refl
kept_here n k len (note.Int i) more is = absurd cc
kept_here n k len (note.Str s) more is = absurd cc

kept_later : (n k place : ℕ) (v : Note) (more : List (Version × ℕ)) → Among (Out n place) more
    → Among (Out n place) (kept_at n k v more)
kept_later n k place (note.File len) more there = inr there
kept_later n k place (note.Int i) more there = there
kept_later n k place (note.Str s) more there = there

-- the entry names the file that is noted at the place
pub noted_among : (n place len : ℕ) (os : List OutNote) → noted_at os place ≡ file_of len
    → Among (Out n place) (outs_kept n os)
noted_among n place len [] is = absurd cc
noted_among n place len (o ∷ os) is = elim (eqb_tells o.place place) [
  | inl same ↦
      subst (λ (p : ℕ). Among (Out n p) (kept_at n o.place o.v (outs_kept n os))) same.1
      (kept_here n o.place len o.v (outs_kept n os)
      (sym (ap (λ (b : Bool). if b then Some o.v else noted_at os place) same.0) ∙ is))
  | inr other ↦ kept_later n o.place place o.v (outs_kept n os)
      (noted_among n place len os
      (sym (ap (λ (b : Bool). if b then Some o.v else noted_at os place) other.0) ∙ is))
]

place_small : (place : ℕ) (v : Note) → notes.out.fits (record { place = place; v = v }) ≡ true
    → place < 2 ^ 8
place_small place v fits =
    let at = both (notes.place.fits place) (notes.note.fits v) fits in
    let one = both (byte.fits place) (notes.within 1 16 place) at.0 in
    ltb-true place 256 one.0

noted_small : (place : ℕ) (v : Note) (os : List OutNote) → all_fit notes.out os ≡ true
    → noted_at os place ≡ Some v → place < 2 ^ 8
noted_small place v [] fit is = absurd cc
noted_small place v (o ∷ os) fit is =
    let parts = both (notes.out.fits o) (all_fit notes.out os) fit in
    elim (eqb_tells o.place place) [
      | inl same ↦ subst (λ (p : ℕ). p < 2 ^ 8) same.1 (place_small o.place o.v parts.0)
      | inr other ↦ noted_small place v os parts.1
          (sym (ap (λ (b : Bool). if b then Some o.v else noted_at os place) other.0) ∙ is)
    ]

-- and the store keeps it
pub noted_kept : (n op place : ℕ) (v : Note) (os : List OutNote)
    → entry.fits (made.Done n op os) ≡ true → noted_at os place ≡ Some v → IsKept (Out n place)
unfolding entry
noted_kept n op place v os fits is =
    let parts = both (notes.task.fits n) ((pair notes.operation notes.outs).fits (op, os)) fits in
    let number = both (four.fits n) (notes.within 1 10000 n) parts.0 in
    let more = both (notes.operation.fits op) (notes.outs.fits os) parts.1 in
    let rises = both ((counted byte notes.out).fits os) (notes.rising 0 os) more.1 in
    let all = both (byte.fits (length os)) (all_fit notes.out os) rises.0 in
    (ltb-true n (2 ^ 32) number.0, noted_small place v os all.1 is)
