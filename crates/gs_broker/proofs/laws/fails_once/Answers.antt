use Rattle.gs_broker.proofs.OneFault as faults
use Rattle.gs_broker.proofs.laws.fails_once.Goals as goal

pub returns : goal.returns
returns c = faults.fails_once
