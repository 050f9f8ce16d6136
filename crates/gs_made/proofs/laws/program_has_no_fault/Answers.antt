use Rattle.gs_made.proofs.Faultless.{has_no_fault}
use Rattle.gs_made.proofs.laws.program_has_no_fault.Goals as goal

pub returns : goal.returns
returns c = has_no_fault
