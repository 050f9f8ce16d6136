use Rattle.gs_parse.proofs.Texts.{one_program}
use Rattle.gs_parse.proofs.laws.one_program.Goals as goal

pub returns : goal.returns
returns c = one_program
