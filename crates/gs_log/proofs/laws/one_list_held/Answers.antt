use Rattle.gs_log.specs.OneList.{one_list_held, stays_held}
use Rattle.gs_log.proofs.laws.one_list_held.Goals as goal

pub returns-clause-one : goal.returns-clause-one
returns-clause-one c = one_list_held

pub returns-clause-stays : goal.returns-clause-stays
returns-clause-stays c = stays_held
