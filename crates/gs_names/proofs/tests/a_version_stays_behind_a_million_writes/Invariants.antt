use Rattle.std.proofs.Common.{◌≤◌, ◌+◌}
use Rattle.gs_names.specs.Table.{spare_in}
use Rattle.gs_names.proofs.tests.a_version_stays_behind_a_million_writes.Given as goal

abbrev pub invariant-loop-i : goal.invariant-loop-i
invariant-loop-i g l = 1000000 ≤ spare_in l.table + l._i
