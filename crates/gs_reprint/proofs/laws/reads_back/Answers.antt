use Rattle.gs_reprint.proofs.ReadsBack.{reads_back}
use Rattle.gs_reprint.proofs.laws.reads_back.Goals as goal

pub returns : goal.returns
returns c = reads_back
