use Rattle.gs_small.proofs.Small.{tasks_are_small}
use Rattle.gs_small.proofs.laws.tasks_are_small.Goals as goal

pub returns : goal.returns
returns c = tasks_are_small
