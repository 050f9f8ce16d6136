use Rattle.gs_talk_laws.proofs.Stays.{tasks_read_versions}
use Rattle.gs_talk_laws.proofs.laws.tasks_read_versions.Goals as goal

pub returns : goal.returns
returns c = tasks_read_versions
