use Rattle.gs_reprint.proofs.AgainProgram.{says_again}
use Rattle.gs_reprint.proofs.laws.says_again.Goals as goal

pub returns : goal.returns
returns c = says_again
