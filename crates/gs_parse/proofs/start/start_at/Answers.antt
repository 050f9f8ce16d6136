use Rattle.std.proofs.Common.{refl}
use Rattle.gs_tree.specs.Shown.{mark_shown}
use Rattle.gs_parse.proofs.Statements.{start_here, no_start_end, no_start_other}
use Rattle.gs_parse.proofs.start.start_at.Goals as goal

pub returns-in-Some-begin_of-clause-starts : goal.returns-in-Some-begin_of-clause-starts
returns-in-Some-begin_of-clause-starts c = start_here _ (mark_shown c.in-Some.mark) _ _ c.in-Some.ensures.shows refl c.in-Some-begin_of.ensures

pub returns-in-None-begin_of-clause-starts : goal.returns-in-None-begin_of-clause-starts
returns-in-None-begin_of-clause-starts c = no_start_other (mark_shown c.in-Some.mark) _ _ c.in-Some.ensures.shows c.in-None-begin_of.ensures

pub returns-in-None-clause-starts : goal.returns-in-None-clause-starts
returns-in-None-clause-starts c = no_start_end _ c.in-None.ensures.shows
