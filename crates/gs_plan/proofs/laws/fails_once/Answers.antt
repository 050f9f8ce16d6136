use Rattle.gs_plan.proofs.OneFault as faults
use Rattle.gs_plan.proofs.laws.fails_once.Goals as goal

pub returns : goal.returns
returns c = faults.fails_once
