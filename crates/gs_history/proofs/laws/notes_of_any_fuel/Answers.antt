use Rattle.gs_history.proofs.Ending.{notes_of_any_fuel}
use Rattle.gs_history.proofs.laws.notes_of_any_fuel.Goals as goal

pub returns : goal.returns
returns c = notes_of_any_fuel
