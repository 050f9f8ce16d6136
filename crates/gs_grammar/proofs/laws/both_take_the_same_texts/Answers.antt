use Rattle.gs_grammar.proofs.Same as proof
use Rattle.gs_grammar.proofs.laws.both_take_the_same_texts.Goals as goal

pub returns : goal.returns
returns c = proof.same_texts
