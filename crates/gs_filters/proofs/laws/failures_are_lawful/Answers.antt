use Rattle.gs_filters.proofs.Calls.{told_counted, told_lawful}
use Rattle.gs_filters.proofs.laws.failures_are_lawful.Goals as goal

pub returns-clause-lawful : goal.returns-clause-lawful
returns-clause-lawful c = told_lawful

pub returns-clause-counted : goal.returns-clause-counted
returns-clause-counted c = told_counted
