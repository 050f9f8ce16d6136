use Rattle.gs_talk_laws.proofs.Ends.{each_run_ends, ends_stay}
use Rattle.gs_talk_laws.proofs.laws.each_run_ends.Goals as goal

pub returns-clause-ends : goal.returns-clause-ends
returns-clause-ends c = each_run_ends

pub returns-clause-stay : goal.returns-clause-stay
returns-clause-stay c = ends_stay
