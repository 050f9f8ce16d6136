use Rattle.gs_check.specs.Faults.{fault_of}
use Rattle.gs_check.specs.Passing.{program_in, interface_in}
use Rattle.gs_check.proofs.PassLaws.{nothing_there, program_passes}
use Rattle.gs_check.proofs.checked.Checked.tree.Goals as goal

pub returns-clause-passes : goal.returns-clause-passes
returns-clause-passes c =
    let checked = c.args.self.now in
    let ops = (interface_in checked).ops in
    program_passes ops (program_in checked) (nothing_there (fault_of ops (program_in checked)) checked.passed)
