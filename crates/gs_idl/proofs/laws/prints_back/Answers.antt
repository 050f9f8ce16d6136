use Rattle.gs_idl.proofs.ReadsBack.{prints_back}
use Rattle.gs_idl.proofs.laws.prints_back.Goals as goal

pub returns : goal.returns
returns c = prints_back
