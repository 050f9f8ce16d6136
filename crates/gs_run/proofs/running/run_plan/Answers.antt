use Rattle.std.proofs.Common.{refl}
use Rattle.gs_run.proofs.running.run_plan.Goals as goal

pub returns-clause-ran : goal.returns-clause-ran
returns-clause-ran g c = λ told o past stands run texts law before.
    c.run_by.ensures.ran told o past stands run texts law before refl
