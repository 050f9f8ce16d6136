use Rattle.gs_made.proofs.Reading.{one_interface, one_program, one_list}
use Rattle.gs_made.proofs.laws.nothing_else_is_said.Goals as goal

pub returns-clause-interface : goal.returns-clause-interface
returns-clause-interface c = one_interface

pub returns-clause-program : goal.returns-clause-program
returns-clause-program c = one_program

pub returns-clause-workers : goal.returns-clause-workers
returns-clause-workers c = one_list
