use Rattle.gs_history.proofs.Needing.{frontier_is_of_needs}
use Rattle.gs_history.proofs.laws.frontier_is_of_needs.Goals as goal

pub returns : goal.returns
returns c = frontier_is_of_needs
