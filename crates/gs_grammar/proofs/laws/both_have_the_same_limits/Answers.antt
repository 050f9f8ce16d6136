use Rattle.gs_grammar.proofs.Same as proof
use Rattle.gs_grammar.proofs.laws.both_have_the_same_limits.Goals as goal

pub returns : goal.returns
returns c = proof.same_limited
