use Rattle.std.proofs.Common.{sym, ap}
use Rattle.gs_fields.specs.Fields.{Reader}
use Rattle.gs_fields.specs.Format.{eight_signed}
use Rattle.gs_fields.proofs.Laws.{eight_signed_law}
use Rattle.gs_fields.proofs.Reading.{reads_field}
use Rattle.gs_fields.proofs.fields.Fields.next_i64.Goals as goal

pub returns : goal.returns
returns c = reads_field eight_signed eight_signed_law (λ x. x) c.args.self.now c.read_i64.new.self c.read_i64.result (rw (ap (λ (r : Reader). r.rest) (sym c.self.view_is)) c.self.invariant.1) c.read_i64.ensures
