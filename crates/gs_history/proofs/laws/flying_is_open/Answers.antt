use Rattle.gs_history.proofs.Opening.{flying_is_open}
use Rattle.gs_history.proofs.laws.flying_is_open.Goals as goal

pub returns : goal.returns
returns c = flying_is_open
