use Rattle.std.proofs.Common.{[]}
use Rattle.gs_parse.proofs.Looks.{takes_true, takes_false}
use Rattle.gs_parse.proofs.marks.accept.Goals as goal

pub returns-then-stands-clause-takes : goal.returns-then-stands-clause-takes
returns-then-stands-clause-takes c = takes_true _ _ _ c.if-stands.ensures.stands

pub returns-clause-takes : goal.returns-clause-takes
returns-clause-takes c = takes_false _ _ [] c.if-stands.ensures.stands
