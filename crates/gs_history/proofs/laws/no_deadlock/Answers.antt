use Rattle.gs_history.proofs.Deadlock.{no_deadlock}
use Rattle.gs_history.proofs.laws.no_deadlock.Goals as goal

pub returns : goal.returns
returns c = no_deadlock
