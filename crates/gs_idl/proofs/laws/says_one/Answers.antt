use Rattle.gs_idl.proofs.Saying.{says_one}
use Rattle.gs_idl.proofs.laws.says_one.Goals as goal

pub returns : goal.returns
returns c = says_one
