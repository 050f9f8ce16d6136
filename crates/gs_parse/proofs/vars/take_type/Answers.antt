use Rattle.gs_parse.proofs.Declaring.{took_int, took_char, took_file, took_no_type}
use Rattle.gs_parse.proofs.vars.take_type.Goals as goal

pub returns-then-accept-clause-takes : goal.returns-then-accept-clause-takes
returns-then-accept-clause-takes c = took_int _ _ c.if-accept.ensures.takes

pub returns-then-accept-2-clause-takes : goal.returns-then-accept-2-clause-takes
returns-then-accept-2-clause-takes c = took_char _ _ _ c.if-accept.ensures.takes c.if-accept-2.ensures.takes

pub returns-then-accept-3-clause-takes : goal.returns-then-accept-3-clause-takes
returns-then-accept-3-clause-takes c = took_file _ _ _ _ c.if-accept.ensures.takes c.if-accept-2.ensures.takes c.if-accept-3.ensures.takes

pub returns-clause-takes : goal.returns-clause-takes
returns-clause-takes c = took_no_type _ _ _ _ c.if-accept.ensures.takes c.if-accept-2.ensures.takes c.if-accept-3.ensures.takes
