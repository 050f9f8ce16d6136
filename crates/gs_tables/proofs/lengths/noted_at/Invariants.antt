use Rattle.std.proofs.Common.{◌≡◌, drop}
use Rattle.gs_tables.specs.Outs.{noted_at}
use Rattle.gs_tables.proofs.lengths.noted_at.Given as goal

abbrev pub invariant-loop-out : goal.invariant-loop-out
invariant-loop-out l = noted_at (drop l.out-index l.outs) l.place ≡ noted_at l.outs l.place
