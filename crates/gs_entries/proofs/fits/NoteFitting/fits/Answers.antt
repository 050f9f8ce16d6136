use Rattle.std.proofs.Common.{sym, ap, ◌∙◌}
use Rattle.gs_entries.specs.Notes.{note}
use Rattle.gs_entries.proofs.Passing.{string_fits}
use Rattle.gs_entries.proofs.fits.NoteFitting.fits.Goals as goal

pub returns-in-Str : goal.returns-in-Str
returns-in-Str c = sym (ap note.fits c.in-Str.is ∙ string_fits c.in-Str.s c.bytes-bytes.ensures.text)
