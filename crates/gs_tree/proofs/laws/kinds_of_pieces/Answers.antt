use Rattle.gs_tree.proofs.Pieces.{kinds-pieces}
use Rattle.gs_tree.proofs.laws.kinds_of_pieces.Goals as goal

pub returns : goal.returns
returns c = kinds-pieces
