use Rattle.gs_works.proofs.Losing.{no_loss_is_before, finished_is_before, abandoned_is_before}
use Rattle.gs_works.proofs.laws.nothing_lost_before.Goals as goal

pub returns-clause-now : goal.returns-clause-now
returns-clause-now c = no_loss_is_before

pub returns-clause-finished : goal.returns-clause-finished
returns-clause-finished c = finished_is_before

pub returns-clause-abandoned : goal.returns-clause-abandoned
returns-clause-abandoned c = abandoned_is_before
