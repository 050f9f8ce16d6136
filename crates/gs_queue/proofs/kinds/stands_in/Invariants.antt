use Rattle.std.proofs.Common.{◌≡◌, drop}
use Rattle.gs_queue.specs.Fronts.{stands_in}
use Rattle.gs_queue.proofs.kinds.stands_in.Given as goal

abbrev pub invariant-loop-f : goal.invariant-loop-f
invariant-loop-f l = stands_in l.n (drop l.f-index l.fronts) ≡ stands_in l.n l.fronts
