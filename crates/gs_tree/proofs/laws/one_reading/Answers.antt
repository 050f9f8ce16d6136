use Rattle.gs_tree.proofs.OneReading as proof
use Rattle.gs_tree.proofs.laws.one_reading.Goals as goal

pub returns : goal.returns
returns c = proof.one_reading
