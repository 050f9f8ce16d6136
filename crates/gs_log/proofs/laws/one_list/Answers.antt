use Rattle.gs_log.specs.OneList.{one, no_log, one_place}
use Rattle.gs_log.proofs.laws.one_list.Goals as goal

pub returns-clause-list : goal.returns-clause-list
returns-clause-list c = λ a b bytes is_a is_b. one a b bytes is_a.spelled is_b.spelled

pub returns-clause-no_log : goal.returns-clause-no_log
returns-clause-no_log c = no_log

pub returns-clause-place : goal.returns-clause-place
returns-clause-place c = one_place
