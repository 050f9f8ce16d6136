use Rattle.gs_history.proofs.Fitting.{notes_fit}
use Rattle.gs_history.proofs.laws.notes_fit.Goals as goal

pub returns : goal.returns
returns c = notes_fit
