use Rattle.gs_entries.proofs.Passing.{name_read, name_refused}
use Rattle.gs_entries.proofs.notes.name_of.Goals as goal

pub returns-in-Ok : goal.returns-in-Ok
returns-in-Ok c = name_read c.args.bytes.now c.in-Ok.name c.in-Ok.ensures.0 c.in-Ok.ensures.1

pub returns-in-Err : goal.returns-in-Err
returns-in-Err c = name_refused c.args.bytes.now _ c.in-Err.ensures
