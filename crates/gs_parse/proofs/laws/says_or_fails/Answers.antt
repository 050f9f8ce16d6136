use Rattle.gs_parse.proofs.Texts.{says_or_fails}
use Rattle.gs_parse.proofs.laws.says_or_fails.Goals as goal

pub returns : goal.returns
returns c = says_or_fails
