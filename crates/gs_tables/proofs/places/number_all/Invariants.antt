use Rattle.std.proofs.Common.{◌≡◌, take}
use Rattle.gs_idl.specs.Interface.{params_at}
use Rattle.gs_names.specs.Table.{names_in, writes_in, spare_in}
use Rattle.gs_talk.specs.Actions.{names_where}
use Rattle.gs_tables.specs.Marks.{with_names, file_test, AreNumbers}
use Rattle.gs_tables.proofs.places.number_all.Given as goal

abbrev pub invariant-loop-i : goal.invariant-loop-i
invariant-loop-i l = record {
  names : names_in l.table ≡ with_names (names_in l.initial.table) (names_where (file_test l.reads) (take l.i (params_at l.idl.ops l.op)) (take l.i l.args));
  numbers : AreNumbers (names_in l.table) l.numbers (names_where (file_test l.reads) (take l.i (params_at l.idl.ops l.op)) (take l.i l.args));
  writes : writes_in l.table ≡ writes_in l.initial.table;
  spare : spare_in l.table ≡ spare_in l.initial.table;
}
