use Rattle.gs_verbs.proofs.Stores.{has_one, has_no_bad}
use Rattle.gs_verbs.proofs.laws.one_store.Goals as goal

pub returns-clause-one : goal.returns-clause-one
returns-clause-one c = has_one

pub returns-clause-good : goal.returns-clause-good
returns-clause-good c = has_no_bad
