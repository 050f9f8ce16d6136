use Rattle.gs_parse.proofs.Places as proof
use Rattle.gs_parse.proofs.laws.same_place.Goals as goal

pub returns : goal.returns
returns c = proof.same_place
