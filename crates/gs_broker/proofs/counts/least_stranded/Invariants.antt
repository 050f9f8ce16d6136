use Rattle.std.proofs.Common.{◌≡◌, drop, length, None, slice_index}
use Rattle.gs_broker.specs.Workers.{takes_at}
use Rattle.gs_broker.specs.Counts.{has_live}
use Rattle.gs_broker.specs.Stranded.{scan_stranded}
use Rattle.gs_broker.proofs.counts.least_stranded.Given as goal

abbrev pub invariant-loop-r : goal.invariant-loop-r
invariant-loop-r l =
    scan_stranded (λ op. has_live (takes_at l.workers) (slice_index l.lapses) op (length l.workers)) (drop l.r-index l.ready) l.least
    ≡ scan_stranded (λ op. has_live (takes_at l.workers) (slice_index l.lapses) op (length l.workers)) l.ready None
