use Rattle.std.proofs.Common.{◌∙◌}
use Rattle.gs_pieces.proofs.Passing.{name_noted}
use Rattle.gs_pieces.proofs.passed.note.Goals as goal

pub returns-in-Ok : goal.returns-in-Ok
returns-in-Ok c = c.in-Ok.ensures.keys ∙ name_noted c.args.names.now.keys c.args.name
