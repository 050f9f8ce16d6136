use Rattle.gs_plan.proofs.OneSaying.{says_one}
use Rattle.gs_plan.proofs.laws.says_one_list.Goals as goal

pub returns : goal.returns
returns c = says_one
