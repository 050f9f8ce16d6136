use Rattle.gs_grammar.proofs.Same as proof
use Rattle.gs_grammar.proofs.laws.both_say_the_same.Goals as goal

pub returns : goal.returns
returns c = proof.same_unlimited
