use Rattle.std.proofs.Common.{◌≡◌, false, slice_index}
use Rattle.gs_broker.specs.Workers.{takes_at}
use Rattle.gs_broker.specs.Counts.{has_live}
use Rattle.gs_broker.proofs.counts.has_live.Given as goal

abbrev pub invariant-loop-w : goal.invariant-loop-w
invariant-loop-w l = has_live (takes_at l.workers) (slice_index l.lapses) l.op l.w ≡ false
