use Rattle.gs_reprint.proofs.WithinProgram.{reads_within}
use Rattle.gs_reprint.proofs.laws.reads_within.Goals as goal

pub returns : goal.returns
returns c = reads_within
