use Rattle.gs_works.proofs.Stranding.{none_is_stranded, least_is_stranded}
use Rattle.gs_works.proofs.laws.stranded.Goals as goal

pub returns-clause-none : goal.returns-clause-none
returns-clause-none c = none_is_stranded

pub returns-clause-least : goal.returns-clause-least
returns-clause-least c = least_is_stranded
