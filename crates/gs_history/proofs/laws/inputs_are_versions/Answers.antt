use Rattle.gs_history.proofs.Dependences.{inputs_are_versions}
use Rattle.gs_history.proofs.laws.inputs_are_versions.Goals as goal

pub returns : goal.returns
returns c = inputs_are_versions
