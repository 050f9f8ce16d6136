use Rattle.gs_made.proofs.Reading.{interface_is_right, program_is_right, workers_are_right}
use Rattle.gs_made.proofs.laws.none_is_at_fault.Goals as goal

pub returns-clause-interface : goal.returns-clause-interface
returns-clause-interface c = interface_is_right

pub returns-clause-program : goal.returns-clause-program
returns-clause-program c = program_is_right

pub returns-clause-workers : goal.returns-clause-workers
returns-clause-workers c = workers_are_right
