use Rattle.gs_history.proofs.Losing.{one_loss, loss_is_loss, starts_lose_nothing}
use Rattle.gs_history.proofs.laws.losses.Goals as goal

pub returns-clause-one : goal.returns-clause-one
returns-clause-one c = one_loss

pub returns-clause-none : goal.returns-clause-none
returns-clause-none c = loss_is_loss

pub returns-clause-started : goal.returns-clause-started
returns-clause-started c = starts_lose_nothing
