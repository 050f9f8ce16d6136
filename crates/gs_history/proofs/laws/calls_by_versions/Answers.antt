use Rattle.gs_history.proofs.Refusing.{calls_by_versions}
use Rattle.gs_history.proofs.laws.calls_by_versions.Goals as goal

pub returns : goal.returns
returns c = calls_by_versions
