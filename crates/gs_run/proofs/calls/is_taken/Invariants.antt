use Rattle.std.proofs.Common.{◌≡◌, drop}
use Rattle.gs_broker.specs.Listed.{entries_in}
use Rattle.gs_run.specs.Unserved.{is_taken}
use Rattle.gs_run.proofs.calls.is_taken.Given as goal

abbrev pub invariant-loop-w : goal.invariant-loop-w
invariant-loop-w l =
    is_taken (drop l.w (entries_in l.workers)) l.op ≡ is_taken (entries_in l.workers) l.op
