use Rattle.std.proofs.Common.{◌≡◌, drop}
use Rattle.gs_broker.specs.Text.{stands}
use Rattle.gs_broker.specs.Reading.{names_of}
use Rattle.gs_broker.proofs.line.has_name.Given as goal

abbrev pub invariant-loop-worker : goal.invariant-loop-worker
invariant-loop-worker l = stands l.name (names_of (drop l.worker-index l.workers)) ≡ stands l.name (names_of l.workers)
