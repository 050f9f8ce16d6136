use Rattle.gs_parse.proofs.Texts.{one_fault}
use Rattle.gs_parse.proofs.laws.one_fault.Goals as goal

pub returns : goal.returns
returns c = one_fault
