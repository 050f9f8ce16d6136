use Rattle.gs_core.proofs.Idle.{idle_has_ended}
use Rattle.gs_core.proofs.laws.idle_has_ended.Goals as goal

pub returns : goal.returns
returns c = idle_has_ended
