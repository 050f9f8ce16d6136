use Rattle.gs_talk_laws.proofs.Stays.{tasks_stay, closed_stay, readings_stay}
use Rattle.gs_talk_laws.proofs.laws.all_stays.Goals as goal

pub returns-clause-tasks : goal.returns-clause-tasks
returns-clause-tasks c = tasks_stay

pub returns-clause-closed : goal.returns-clause-closed
returns-clause-closed c = closed_stay

pub returns-clause-readings : goal.returns-clause-readings
returns-clause-readings c = readings_stay
