use Rattle.gs_history.proofs.Ending.{done_is_true, stopped_is_ended}
use Rattle.gs_history.proofs.laws.done_is_true.Goals as goal

pub returns-clause-done : goal.returns-clause-done
returns-clause-done c = done_is_true

pub returns-clause-ended : goal.returns-clause-ended
returns-clause-ended c = stopped_is_ended
