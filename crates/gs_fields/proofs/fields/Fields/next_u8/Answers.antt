use Rattle.std.proofs.Common.{sym, ap}
use Rattle.gs_fields.specs.Fields.{Reader}
use Rattle.gs_fields.specs.Format.{byte}
use Rattle.gs_fields.proofs.Laws.{byte_law}
use Rattle.gs_fields.proofs.Reading.{reads_field}
use Rattle.gs_fields.proofs.fields.Fields.next_u8.Goals as goal

pub returns : goal.returns
returns c = reads_field byte byte_law (λ x. x) c.args.self.now c.read_u8.new.self c.read_u8.result (rw (ap (λ (r : Reader). r.rest) (sym c.self.view_is)) c.self.invariant.1) c.read_u8.ensures
