use Rattle.gs_types.specs.HistoryLaws.{refused_alike}
use Rattle.gs_types.proofs.laws.refused_is_started_and_failed.Goals as goal

pub returns : goal.returns
returns c = refused_alike
