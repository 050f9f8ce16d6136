use Rattle.std.proofs.Common.{◌≡◌, map, take}
use Rattle.gs_looks.specs.Looked.{looks_in}
use Rattle.gs_tables.specs.Lengths.{kept_length}
use Rattle.gs_tables.proofs.lengths.kept_of.Given as goal

abbrev pub invariant-loop-v : goal.invariant-loop-v
invariant-loop-v l = l.kept ≡ map (kept_length (looks_in l.looks) l.mains) (take l.v-index l.reads)
