use Rattle.gs_reprint.proofs.ReadsBack.{prints_once}
use Rattle.gs_reprint.proofs.laws.prints_once.Goals as goal

pub returns : goal.returns
returns c = prints_once
