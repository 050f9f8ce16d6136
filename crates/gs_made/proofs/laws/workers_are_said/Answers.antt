use Rattle.gs_made.proofs.Workers.{says_workers, each_takes_all}
use Rattle.gs_made.proofs.laws.workers_are_said.Goals as goal

pub returns-clause-says : goal.returns-clause-says
returns-clause-says c = says_workers

pub returns-clause-take_all : goal.returns-clause-take_all
returns-clause-take_all c = each_takes_all
