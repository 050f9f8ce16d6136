use Rattle.gs_talk_laws.proofs.Programs.{calls_fit}
use Rattle.gs_talk_laws.proofs.laws.calls_fit.Goals as goal

pub returns : goal.returns
returns c = calls_fit
