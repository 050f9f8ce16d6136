use Rattle.gs_talk.proofs.Again.{begins_again, all_begin_again, passed_begin_again}
use Rattle.gs_talk.proofs.laws.begins_again.Goals as goal

pub returns-clause-one : goal.returns-clause-one
returns-clause-one c = begins_again

pub returns-clause-several : goal.returns-clause-several
returns-clause-several c = all_begin_again

pub returns-clause-passed : goal.returns-clause-passed
returns-clause-passed c = passed_begin_again
