use Rattle.gs_entries.proofs.Passing.{string_read}
use Rattle.gs_entries.proofs.notes.string_of.Goals as goal

pub returns-in-Ok : goal.returns-in-Ok
returns-in-Ok c = string_read c.args.bytes.now c.in-Ok.s c.in-Ok.ensures.0 c.in-Ok.ensures.1
