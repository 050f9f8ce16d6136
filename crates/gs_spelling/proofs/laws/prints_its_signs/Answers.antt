use Rattle.gs_spelling.proofs.Programs.{prints_its_signs}
use Rattle.gs_spelling.proofs.laws.prints_its_signs.Goals as goal

pub returns : goal.returns
returns c = prints_its_signs
