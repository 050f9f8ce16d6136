use Rattle.gs_parse.proofs.Looks.{expects_ok, expects_err}
use Rattle.gs_parse.proofs.marks.expect.Goals as goal

pub returns-then-accept-clause-expects : goal.returns-then-accept-clause-expects
returns-then-accept-clause-expects c = expects_ok _ _ _ c.if-accept.ensures.takes

pub returns-clause-expects : goal.returns-clause-expects
returns-clause-expects c = expects_err _ _ _ c.if-accept.ensures.takes
