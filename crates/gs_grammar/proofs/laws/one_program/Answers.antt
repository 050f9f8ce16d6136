use Rattle.gs_grammar.proofs.Same as proof
use Rattle.gs_grammar.proofs.laws.one_program.Goals as goal

pub returns : goal.returns
returns c = proof.one_program
