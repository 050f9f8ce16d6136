use Rattle.gs_parse.proofs.Assigning.{past, past_both}
use Rattle.gs_parse.proofs.Modes.{took_r, took_w, took_a, took_none}
use Rattle.gs_parse.proofs.mode.take_mode.Goals as goal

pub returns-then-accept-clause-takes : goal.returns-then-accept-clause-takes
returns-then-accept-clause-takes c = took_r _ _ c.if-accept.ensures.takes

pub returns-then-accept-2-clause-takes : goal.returns-then-accept-2-clause-takes
returns-then-accept-2-clause-takes c = took_w _ _ (past _ _ _ _ _ c.if-accept.ensures.takes c.if-accept-2.ensures.takes)

pub returns-then-accept-3-clause-takes : goal.returns-then-accept-3-clause-takes
returns-then-accept-3-clause-takes c = took_a _ _ (past _ _ _ _ _ (past_both _ _ _ _ _ c.if-accept.ensures.takes c.if-accept-2.ensures.takes) c.if-accept-3.ensures.takes)

pub returns-clause-takes : goal.returns-clause-takes
returns-clause-takes c = took_none _ _ _ _ c.if-accept.ensures.takes (past_both _ _ _ _ _ c.if-accept.ensures.takes c.if-accept-2.ensures.takes) (past_both _ _ _ _ _ (past_both _ _ _ _ _ c.if-accept.ensures.takes c.if-accept-2.ensures.takes) c.if-accept-3.ensures.takes)
