use Rattle.std.proofs.Common.{refl}
use Rattle.gs_tree.specs.Sign.{close_brace}
use Rattle.gs_tree.specs.View.{program_of}
use Rattle.gs_parse.specs.Notation.{a_program}
use Rattle.gs_parse.specs.Reads.{Anything}
use Rattle.gs_parse.proofs.Chain.{then_word, stop_word, gave}
use Rattle.gs_parse.proofs.frame.read_end.Goals as goal

pub returns-in-Ok-clause-reads : goal.returns-in-Ok-clause-reads
returns-in-Ok-clause-reads c = (then_word a_program close_brace Anything _ _ _ _ _ _ _ c.in-Ok.ensures.expects (gave a_program _ program_of _ _ refl))

pub returns-in-Err-clause-reads : goal.returns-in-Err-clause-reads
returns-in-Err-clause-reads c = (stop_word a_program close_brace Anything _ _ _ _ _ c.in-Err.ensures.expects)
