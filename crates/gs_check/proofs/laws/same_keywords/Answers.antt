use Rattle.gs_check.proofs.SharedWords.{same_keywords}
use Rattle.gs_check.proofs.laws.same_keywords.Goals as goal

pub returns : goal.returns
returns c = same_keywords
