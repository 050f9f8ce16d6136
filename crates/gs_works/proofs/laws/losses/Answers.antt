use Rattle.gs_works.proofs.Losing.{settled_loss, failed_loss, refused_loss, loss_stays}
use Rattle.gs_works.proofs.laws.losses.Goals as goal

pub returns-clause-settled : goal.returns-clause-settled
returns-clause-settled c = settled_loss

pub returns-clause-failed : goal.returns-clause-failed
returns-clause-failed c = failed_loss

pub returns-clause-refused : goal.returns-clause-refused
returns-clause-refused c = refused_loss

pub returns-clause-stays : goal.returns-clause-stays
returns-clause-stays c = loss_stays
