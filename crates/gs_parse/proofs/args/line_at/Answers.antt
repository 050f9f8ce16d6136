use Rattle.std.proofs.Common.{ap, sym}
use Rattle.gs_parse.specs.Reads.{line_of}
use Rattle.gs_parse.proofs.args.line_at.Goals as goal

pub returns-in-Some : goal.returns-in-Some
returns-in-Some c = sym (ap line_of c.in-Some.ensures.shows)

pub returns-in-None : goal.returns-in-None
returns-in-None c = sym (ap line_of c.in-None.ensures.shows)
