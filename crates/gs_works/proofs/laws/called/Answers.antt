use Rattle.gs_works.proofs.Listing.{none_called, ready_called_now, waiting_called}
use Rattle.gs_works.proofs.laws.called.Goals as goal

pub returns-clause-none : goal.returns-clause-none
returns-clause-none c = none_called

pub returns-clause-ready : goal.returns-clause-ready
returns-clause-ready c = ready_called_now

pub returns-clause-waiting : goal.returns-clause-waiting
returns-clause-waiting c = waiting_called
