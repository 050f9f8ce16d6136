use Rattle.std.proofs.Common.{sym}
use Rattle.gs_entries.proofs.Passing.{name_fits}
use Rattle.gs_entries.proofs.fits.NameFitting.fits.Goals as goal

pub returns : goal.returns
returns c = sym (name_fits _ c.bytes-bytes.ensures.name)
