use Rattle.gs_types.specs.HistoryLaws.{since_after}
use Rattle.gs_types.proofs.laws.since_is_what_came_after.Goals as goal

pub returns : goal.returns
returns c = since_after
