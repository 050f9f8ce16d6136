use Rattle.gs_check.proofs.SharedWords.{same_letters}
use Rattle.gs_check.proofs.laws.same_letters.Goals as goal

pub returns : goal.returns
returns c = same_letters
