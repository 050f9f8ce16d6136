use Rattle.gs_made.proofs.Running.{made_runs_end}
use Rattle.gs_made.proofs.laws.run_ends.Goals as goal

pub returns : goal.returns
returns c = made_runs_end
