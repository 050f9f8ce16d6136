use Rattle.std.proofs.Common.{◌≡◌, ◌++◌, take, drop}
use Rattle.gs_queue.specs.Numbered.{put_in}
use Rattle.gs_broker.specs.declared.choice.Ready.{Ready}
use Rattle.gs_queue.proofs.place.place_of.Given as goal

abbrev pub invariant-loop-i : goal.invariant-loop-i
invariant-loop-i l = (r : Ready) → r.n ≡ l.n → take l.i l.ready ++ put_in r (drop l.i l.ready) ≡ put_in r l.ready
