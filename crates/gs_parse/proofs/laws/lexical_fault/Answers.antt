use Rattle.gs_parse.proofs.Spotless.{lexical_fault}
use Rattle.gs_parse.proofs.laws.lexical_fault.Goals as goal

pub returns : goal.returns
returns c = lexical_fault
