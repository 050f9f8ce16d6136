use Rattle.gs_talk.proofs.LineBytes.{text_taken}
use Rattle.gs_talk.proofs.lines.taken.Goals as goal

pub returns-in-Ok : goal.returns-in-Ok
returns-in-Ok c = text_taken c.args.line.now c.in-Ok.s c.args.next c.requires c.in-Ok.ensures.0 c.in-Ok.ensures.1
