use Rattle.std.proofs.Common.{◌≡◌, drop}
use Rattle.gs_looks.specs.Looked.{seen_of}
use Rattle.gs_looks.proofs.look.seen_in.Given as goal

abbrev pub invariant-loop-i : goal.invariant-loop-i
invariant-loop-i l = seen_of l.list l.name ≡ seen_of (drop l.i l.list) l.name
