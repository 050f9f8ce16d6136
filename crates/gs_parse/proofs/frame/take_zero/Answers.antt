use Rattle.gs_tree.specs.Shown.{mark_shown}
use Rattle.gs_parse.proofs.Framing.{zero_end, zero_here, zero_other}
use Rattle.gs_parse.proofs.frame.take_zero.Goals as goal

pub returns-in-None-clause-takes : goal.returns-in-None-clause-takes
returns-in-None-clause-takes c = zero_end _ _ c.in-None.ensures.shows

pub returns-then-is_zero_sign-clause-takes : goal.returns-then-is_zero_sign-clause-takes
returns-then-is_zero_sign-clause-takes c = zero_here _ (mark_shown c.in-Some.mark) _ _ c.in-Some.ensures.shows c.if-is_zero_sign.ensures

pub returns-clause-takes : goal.returns-clause-takes
returns-clause-takes c = zero_other _ (mark_shown c.in-Some.mark) _ _ c.in-Some.ensures.shows c.if-is_zero_sign.ensures
