use Rattle.std.proofs.Common.{subst}
use Rattle.gs_verbs.specs.Planning.{IsTextOf}
use Rattle.gs_verbs.proofs.Plans.{too_long}
use Rattle.gs_verbs.proofs.durations.durations_in.Goals as goal

pub returns-in-Long-clause-says : goal.returns-in-Long-clause-says
returns-in-Long-clause-says c = λ file of.
    too_long c.args.idl.now.ops file (subst (IsTextOf file) c.in-Long.is of)
