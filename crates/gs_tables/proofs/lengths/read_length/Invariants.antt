use Rattle.std.proofs.Common.{◌≡◌, ◌≤◌, ◌+◌, drop}
use Rattle.std.specs.Prelude.{min}
use Rattle.gs_policy.specs.declared.limits.TheConstants.{BYTES_LIMIT}
use Rattle.gs_tables.specs.Rows.{read_lengths}
use Rattle.gs_tables.proofs.lengths.read_length.Given as goal

abbrev pub invariant-loop-i : goal.invariant-loop-i
invariant-loop-i l = (min (l.sum + read_lengths l.rows (drop l.i l.reads) (drop l.i l.kept)) BYTES_LIMIT ≡ min (read_lengths l.rows l.reads l.kept) BYTES_LIMIT) × (l.sum ≤ BYTES_LIMIT)
