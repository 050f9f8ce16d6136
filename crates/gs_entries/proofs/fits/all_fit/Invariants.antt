use Rattle.std.proofs.Common.{◌≡◌, drop}
use Rattle.gs_fields.specs.Format.{all_fit}
use Rattle.gs_entries.proofs.fits.all_fit.Given as goal

abbrev pub invariant-loop-item : goal.invariant-loop-item
invariant-loop-item g l = all_fit g.T.Spelled.format (drop l.item-index l.items)
    ≡ all_fit g.T.Spelled.format l.items
