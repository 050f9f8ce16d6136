use Rattle.gs_disk.specs.Name.{NamedTo}
use Rattle.gs_disk.proofs.name.is_disk_name.Given as goal

abbrev pub invariant-loop-b : goal.invariant-loop-b
invariant-loop-b l = NamedTo l.bytes l.b-index
