use Rattle.gs_spelling.proofs.Spelling.{texts_are_spelled}
use Rattle.gs_spelling.proofs.laws.texts_are_spelled.Goals as goal

pub returns : goal.returns
returns c = texts_are_spelled
