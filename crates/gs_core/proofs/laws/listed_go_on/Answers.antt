use Rattle.gs_core.proofs.Rosters.{listed_go_on}
use Rattle.gs_core.proofs.laws.listed_go_on.Goals as goal

pub returns : goal.returns
returns c = listed_go_on
