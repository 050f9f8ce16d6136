use Rattle.std.proofs.Common.{◌≡◌, ◌<◌, ℕ, Some, None}
use Rattle.slab.specs.Slab.{get}
use Rattle.gs_broker.specs.Broker.{job_in}
use Rattle.gs_broker.specs.declared.tasks.Flight.{Flight}
use Rattle.gs_broker.proofs.broker.Broker.any_job.Given as goal

abbrev pub invariant-loop-key : goal.invariant-loop-key
invariant-loop-key l = (k : ℕ) (j : Flight) → k < l.key → get l.self.jobs k ≡ Some j → job_in l.self j.n ≡ None
