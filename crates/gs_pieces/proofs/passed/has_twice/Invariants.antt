use Rattle.std.proofs.Common.{◌≡◌, drop}
use Rattle.gs_talk.specs.Talk.{has_twice}
use Rattle.gs_pieces.proofs.passed.has_twice.Given as goal

abbrev pub invariant-loop-i : goal.invariant-loop-i
invariant-loop-i l = has_twice (drop l.i l.names) ≡ has_twice l.names
