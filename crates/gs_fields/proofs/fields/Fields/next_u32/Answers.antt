use Rattle.std.proofs.Common.{sym, ap}
use Rattle.gs_fields.specs.Fields.{Reader}
use Rattle.gs_fields.specs.Format.{four}
use Rattle.gs_fields.proofs.Laws.{four_law}
use Rattle.gs_fields.proofs.Reading.{reads_field}
use Rattle.gs_fields.proofs.fields.Fields.next_u32.Goals as goal

pub returns : goal.returns
returns c = reads_field four four_law (λ x. x) c.args.self.now c.read_u32.new.self c.read_u32.result (rw (ap (λ (r : Reader). r.rest) (sym c.self.view_is)) c.self.invariant.1) c.read_u32.ensures
