use Rattle.gs_tree.specs.Sign.{star}
use Rattle.gs_parse.specs.Notation.{declared}
use Rattle.gs_parse.specs.Reads.{Anything}
use Rattle.gs_parse.specs.Frame.{declared_of}
use Rattle.gs_parse.proofs.Chain.{stop_word}
use Rattle.gs_parse.proofs.Declaring.{begins_stop, begins_word}
use Rattle.gs_parse.proofs.vars.read_string.Goals as goal

pub returns-in-Ok-clause-reads : goal.returns-in-Ok-clause-reads
returns-in-Ok-clause-reads c = begins_word declared star Anything _ _ declared_of _ _ _ _ _ c.in-Ok.ensures.expects c.read_valued.ensures.reads

pub returns-in-Err-clause-reads : goal.returns-in-Err-clause-reads
returns-in-Err-clause-reads c = begins_stop _ _ _ _ declared_of _ _ _ (stop_word declared star Anything _ _ _ _ _ c.in-Err.ensures.expects)
