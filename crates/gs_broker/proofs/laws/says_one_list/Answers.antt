use Rattle.gs_broker.proofs.OneList.{says_one}
use Rattle.gs_broker.proofs.laws.says_one_list.Goals as goal

pub returns : goal.returns
returns c = says_one
