use Rattle.std.proofs.Common.{◌≡◌, ◌≤◌, ◌+◌, take}
use Rattle.gs_idl.specs.Interface.{params_at}
use Rattle.gs_names.specs.Table.{names_in, writes_in, spare_in}
use Rattle.gs_talk_laws.specs.Versions.{written_by}
use Rattle.gs_tables.specs.Written.{written_back}
use Rattle.gs_tables.proofs.places.write_all.Given as goal

abbrev pub invariant-loop-i : goal.invariant-loop-i
invariant-loop-i l = record {
  names : names_in l.table ≡ names_in l.initial.table;
  writes : writes_in l.table ≡ written_back (written_by l.n 1 (take l.i (params_at l.idl.ops l.op)) (take l.i l.args)) (writes_in l.initial.table);
  spare : l.count ≤ spare_in l.table + l.i;
}
