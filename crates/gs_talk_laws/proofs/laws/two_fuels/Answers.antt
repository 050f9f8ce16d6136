use Rattle.gs_talk_laws.proofs.Fuels.{tasks_go_on, same_tasks, same_closed}
use Rattle.gs_talk_laws.proofs.laws.two_fuels.Goals as goal

pub returns-clause-go_on : goal.returns-clause-go_on
returns-clause-go_on c = tasks_go_on

pub returns-clause-tasks : goal.returns-clause-tasks
returns-clause-tasks c = same_tasks

pub returns-clause-closed : goal.returns-clause-closed
returns-clause-closed c = same_closed
