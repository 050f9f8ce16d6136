use Rattle.gs_made.proofs.Interface.{says_interface, well_formed}
use Rattle.gs_made.proofs.laws.interface_is_said.Goals as goal

pub returns-clause-says : goal.returns-clause-says
returns-clause-says c = says_interface

pub returns-clause-keeps_rules : goal.returns-clause-keeps_rules
returns-clause-keeps_rules c = well_formed
