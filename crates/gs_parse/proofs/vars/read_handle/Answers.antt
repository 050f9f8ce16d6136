use Rattle.std.proofs.Common.{[]}
use Rattle.gs_tree.specs.Sign.{ident, star}
use Rattle.gs_parse.specs.Grammar.{next_var}
use Rattle.gs_parse.specs.Notation.{declared}
use Rattle.gs_parse.specs.Reads.{Anything, IsNamed}
use Rattle.gs_parse.specs.Frame.{declared_of}
use Rattle.gs_parse.proofs.Chain.{then_word, stop_word}
use Rattle.gs_parse.proofs.Declaring.{begins_stop, declares, handle}
use Rattle.gs_parse.proofs.vars.read_handle.Goals as goal

pub returns-in-Err-clause-reads : goal.returns-in-Err-clause-reads
returns-in-Err-clause-reads c = begins_stop _ _ _ _ declared_of _ _ _ (stop_word declared star Anything _ _ _ _ _ c.in-Err.ensures.expects)

pub returns-in-Ok-take_name-clause-reads : goal.returns-in-Ok-take_name-clause-reads
returns-in-Ok-take_name-clause-reads c = declares _ (next_var _) _ _ _ _ _ (handle Anything _ _ _ _ _ c.in-Ok-take_name.name c.in-Ok.ensures.expects c.in-Ok-take_name.ensures.expects) c.declare_plain.ensures

pub returns-in-Err-take_name-clause-reads : goal.returns-in-Err-take_name-clause-reads
returns-in-Err-take_name-clause-reads c = begins_stop _ _ _ _ declared_of _ _ _ (then_word declared star Anything _ _ _ _ _ _ _ c.in-Ok.ensures.expects (stop_word declared (ident []) IsNamed _ _ _ _ _ c.in-Err-take_name.ensures.expects))
