use Rattle.std.proofs.Common.{length}
use Rattle.gs_plan.specs.Actions.{precedes, longs_of}
use Rattle.gs_plan.proofs.OneSchedule.{one_schedule}
use Rattle.gs_plan.proofs.Tables.{longs_are, precedes_rise}
use Rattle.gs_plan.proofs.laws.there_is_one_schedule.Goals as goal

pub returns : goal.returns
returns c = λ count durations actions slots starts slots' starts' fit long a b.
    one_schedule count (longs_of durations actions) (precedes actions) slots starts slots' starts'
    (precedes_rise (length durations) durations actions fit.each)
    (λ k l. ((longs_are durations actions long fit.each).each k l).0) a b
