use Rattle.gs_idl_faults.proofs.Faults.{one_fault}
use Rattle.gs_idl_faults.proofs.laws.one_fault.Goals as goal

pub returns : goal.returns
returns c = one_fault
