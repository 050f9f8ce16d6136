use Rattle.gs_works.proofs.Choosing.{least_start_is_due, no_start_is_quiet}
use Rattle.gs_works.proofs.Listing.{ready_is_called}
use Rattle.gs_works.proofs.laws.starts_are_due.Goals as goal

pub returns-clause-called : goal.returns-clause-called
returns-clause-called c = ready_is_called

pub returns-clause-due : goal.returns-clause-due
returns-clause-due c = least_start_is_due

pub returns-clause-quiet : goal.returns-clause-quiet
returns-clause-quiet c = no_start_is_quiet
