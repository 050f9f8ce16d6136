use Rattle.std.proofs.Common.{length, arith, ap}
use Rattle.gs_log.specs.Kept.{pieces_of}
use Rattle.gs_log.proofs.Kept.{length-payloads}
use Rattle.gs_log.proofs.log.Log.count.Goals as goal

pub overflow_cast-result : goal.overflow_cast-result
overflow_cast-result c = omega (arith, c.len.ensures, c.self.inside.places.ok.0, length-payloads (pieces_of c.self.inside.pieces.items) c.self.inside.places.items, c.self.invariant.fits.few)

pub returns-clause-value : goal.returns-clause-value
returns-clause-value c = omega (arith, c.len.ensures, c.self.inside.places.ok.0, length-payloads (pieces_of c.self.inside.pieces.items) c.self.inside.places.items, ap length c.self.view_is)

pub returns-clause-few : goal.returns-clause-few
returns-clause-few c = omega (arith, c.len.ensures, c.self.inside.places.ok.0, length-payloads (pieces_of c.self.inside.pieces.items) c.self.inside.places.items, c.self.invariant.fits.few)
