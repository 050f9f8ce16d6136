use Rattle.gs_tree.specs.Shown.{mark_shown}
use Rattle.gs_parse.proofs.Levels.{operator_end, operator_other, operator_here}
use Rattle.gs_parse.proofs.operator.operator_at.Goals as goal

pub returns-then-sign_binding-level-clause-stands : goal.returns-then-sign_binding-level-clause-stands
returns-then-sign_binding-level-clause-stands c = operator_here _ _ _ (mark_shown c.in-Some.mark) _ _ c.in-Some.ensures.shows c.sign_binding.ensures c.if-sign_binding-level.true c.sign_operator.ensures

pub returns-else-sign_binding-level-clause-stands : goal.returns-else-sign_binding-level-clause-stands
returns-else-sign_binding-level-clause-stands c = operator_other _ _ (mark_shown c.in-Some.mark) _ _ c.in-Some.ensures.shows c.sign_binding.ensures c.if-sign_binding-level.false

pub returns-in-None-clause-stands : goal.returns-in-None-clause-stands
returns-in-None-clause-stands c = operator_end _ _ c.in-None.ensures.shows
