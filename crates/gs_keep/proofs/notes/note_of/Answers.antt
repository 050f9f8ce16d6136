use Rattle.std.proofs.Common.{ap, ◌∙◌, List, ℕ}
use Rattle.gs_types.specs.declared.note.Note.TheVariants.{Str}
use Rattle.gs_entries.specs.Notes.{note}
use Rattle.gs_entries.proofs.Passing.{string_fits}
use Rattle.gs_keep.proofs.notes.note_of.Goals as goal

pub returns-in_ok-copy-in-Str-clause-fits : goal.returns-in_ok-copy-in-Str-clause-fits
returns-in_ok-copy-in-Str-clause-fits c =
    ap (λ (s : List ℕ). note.fits (Str s)) c.in_ok-copy-in-Str.ensures
    ∙ string_fits c.in-Str.s c.bytes-bytes.ensures.text
