use Rattle.gs_parse.proofs.Faults.{one_meaning}
use Rattle.gs_parse.proofs.laws.one_meaning.Goals as goal

pub returns : goal.returns
returns c = one_meaning
