use Rattle.std.proofs.Common.{drop}
use Rattle.std.specs.Prelude.{◌↔◌}
use Rattle.gs_types.specs.Job.{Fit}
use Rattle.gs_site.proofs.fit.fits.Given as goal

abbrev pub invariant-loop-arg : goal.invariant-loop-arg
invariant-loop-arg l = Fit l.args l.outs ↔ Fit (drop l.arg-index l.args) l.rest
