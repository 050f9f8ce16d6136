use Rattle.gs_talk_laws.proofs.Fuels.{same_end, any_end}
use Rattle.gs_talk_laws.proofs.laws.same_end.Goals as goal

pub returns-clause-greater : goal.returns-clause-greater
returns-clause-greater c = same_end

pub returns-clause-any : goal.returns-clause-any
returns-clause-any c = any_end
