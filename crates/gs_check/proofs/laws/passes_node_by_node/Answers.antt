use Rattle.gs_check.proofs.PassLaws.{program_passes}
use Rattle.gs_check.proofs.laws.passes_node_by_node.Goals as goal

pub returns : goal.returns
returns c = program_passes
