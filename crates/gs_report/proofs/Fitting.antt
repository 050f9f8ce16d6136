-- Finals that are within the limits.
use Rattle.std.proofs.Common.{◌≡◌, ℕ, zero, suc, ◌<◌, ◌≤◌, true, ◌&&◌, List, [], ◌∷◌, length, get_or, ap, ◌∙◌, arith}
use Rattle.std.specs.Prelude.{nat_le}
use Rattle.std.proofs.lemmas.Bool.{leb-true}
use Rattle.gs_types.specs.declared.limits.TheConstants.{FILE_LIMIT}
use Rattle.gs_types.specs.declared.note.FinalNote.{FinalNote}
use Rattle.gs_fields.specs.Format.{Format, four, eight, all_fit}
use Rattle.gs_entries.specs.Entries.{entry}
use Rattle.gs_entries.specs.Gate.{gate}
use Rattle.gs_entries.specs.Notes.{file_len, version, final}
use Rattle.gs_entries.specs.declared.entry.Entry.TheVariants as made
use Rattle.gs_entries.specs.declared.entry.GateNote.{GateNote}
use Rattle.gs_entries.proofs.Loop.{both, parts_fit}

finals_so : (g : GateNote) → gate.fits g ≡ true → all_fit final g.finals ≡ true
finals_so g e =
    let parts = parts_fit g e in
    (both (four.fits (length g.finals)) (all_fit final g.finals) parts.finals_fit).1

pub finals_fit : (g : GateNote) → entry.fits (made.Gate g) ≡ true
    → all_fit final g.finals ≡ true
unfolding entry
finals_fit g fits = finals_so g fits

fit_at : {A : Type 0} (f : Format A) (xs : List A) (i : ℕ) (d : A) → all_fit f xs ≡ true
    → i < length xs → f.fits (get_or xs i d) ≡ true
fit_at f [] i d e lt = absurd (omega arith)
fit_at f (x ∷ xs) zero d e lt = (both (f.fits x) (all_fit f xs) e).0
fit_at f (x ∷ xs) (suc i) d e lt =
    fit_at f xs i d (both (f.fits x) (all_fit f xs) e).1 (omega arith)

short_file : (len : ℕ) → file_len.fits len ≡ true → len ≤ FILE_LIMIT
short_file len e = leb-true len FILE_LIMIT (both (eight.fits len) (nat_le len FILE_LIMIT) e).1

short_final : (f : FinalNote) → final.fits f ≡ true → f.len ≤ FILE_LIMIT
short_final f e =
    let a = both (four.fits f.name) (version.fits f.version && file_len.fits f.len) e in
    let b = both (version.fits f.version) (file_len.fits f.len) a.1 in
    short_file f.len b.1

pub short_at : (fs : List FinalNote) (i : ℕ) (f : FinalNote) → all_fit final fs ≡ true
    → i < length fs → f ≡ get_or fs i f → f.len ≤ FILE_LIMIT
short_at fs i f fits lt is = short_final f (ap final.fits is ∙ fit_at final fs i f fits lt)
