use Rattle.gs_entries.proofs.Loop.{parts_fit}
use Rattle.gs_entries.proofs.gate.GateNoteSpelled.put.Goals as goal

pub put_list-requires-3 : goal.put_list-requires-3
put_list-requires-3 c = (parts_fit c.args.self.now c.requires).vars_fit

pub put_list-requires-4 : goal.put_list-requires-4
put_list-requires-4 c = (parts_fit c.args.self.now c.requires).actions_fit
