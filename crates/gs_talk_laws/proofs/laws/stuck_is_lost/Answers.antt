use Rattle.gs_talk_laws.proofs.Stuck.{uses_are_of_tasks, files_are_known, stuck_is_lost}
use Rattle.gs_talk_laws.proofs.laws.stuck_is_lost.Goals as goal

pub returns-clause-uses : goal.returns-clause-uses
returns-clause-uses c = uses_are_of_tasks

pub returns-clause-files : goal.returns-clause-files
returns-clause-files c = files_are_known

pub returns-clause-stuck : goal.returns-clause-stuck
returns-clause-stuck c = stuck_is_lost
