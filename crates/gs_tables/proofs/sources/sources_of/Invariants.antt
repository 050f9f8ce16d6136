use Rattle.std.proofs.Common.{◌≡◌, ◌<◌, take}
use Rattle.std.specs.Prelude.{All}
use Rattle.gs_tables.specs.Sources.{sources}
use Rattle.gs_tables.proofs.sources.sources_of.Given as goal

abbrev pub invariant-loop-v : goal.invariant-loop-v
invariant-loop-v l = (l.list.items ≡ sources l.n (take l.v-index l.reads)) × All (λ p. (0 < p) × (p < l.n)) l.list.items
