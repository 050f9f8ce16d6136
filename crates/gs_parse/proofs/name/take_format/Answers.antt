use Rattle.std.proofs.Common.{refl}
use Rattle.gs_tree.specs.Shown.{mark_shown}
use Rattle.gs_parse.proofs.Looks.{expects_end, expects_other, expects_memory, expects_format}
use Rattle.gs_parse.proofs.name.take_format.Goals as goal

pub returns-in-None-clause-expects : goal.returns-in-None-clause-expects
returns-in-None-clause-expects c = expects_end _ _ _ c.in-None.ensures.shows

pub returns-in-None-text_in-clause-expects : goal.returns-in-None-text_in-clause-expects
returns-in-None-text_in-clause-expects c = expects_other _ _ _ (mark_shown c.in-Some.mark) _ c.in-Some.ensures.shows c.in-None-text_in.ensures

pub returns-in-Err-clause-expects : goal.returns-in-Err-clause-expects
returns-in-Err-clause-expects c = expects_memory _ _ _

pub returns-clause-expects : goal.returns-clause-expects
returns-clause-expects c = expects_format _ (mark_shown c.in-Some.mark) c.in-Some-text_in.text.now _ _ c.in-Some.ensures.shows c.in-Some-text_in.ensures refl c.in-Ok.ensures
