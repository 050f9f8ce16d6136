use Rattle.gs_made.proofs.Saying.{says_program}
use Rattle.gs_made.proofs.laws.program_is_said.Goals as goal

pub returns : goal.returns
returns c = says_program
