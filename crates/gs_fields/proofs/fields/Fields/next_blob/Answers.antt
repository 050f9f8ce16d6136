use Rattle.std.proofs.Common.{sym, ap}
use Rattle.gs_fields.specs.Fields.{Reader}
use Rattle.gs_fields.specs.Format.{bytes}
use Rattle.gs_fields.proofs.Laws.{bytes_law}
use Rattle.gs_fields.proofs.Reading.{reads_field}
use Rattle.gs_fields.proofs.fields.Fields.next_blob.Goals as goal

pub returns : goal.returns
returns c = reads_field bytes bytes_law (λ x. x.now) c.args.self.now c.read_blob.new.self c.read_blob.result (rw (ap (λ (r : Reader). r.rest) (sym c.self.view_is)) c.self.invariant.1) c.read_blob.ensures
