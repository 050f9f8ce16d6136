use Rattle.gs_talk_laws.proofs.Programs.{uses_are_due}
use Rattle.gs_talk_laws.proofs.laws.uses_are_due.Goals as goal

pub returns : goal.returns
returns c = uses_are_due
