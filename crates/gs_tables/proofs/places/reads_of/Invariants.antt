use Rattle.std.proofs.Common.{◌≡◌, take}
use Rattle.gs_idl.specs.Interface.{params_at}
use Rattle.gs_names.specs.Table.{writes_in}
use Rattle.gs_names.specs.Writes.{latest}
use Rattle.gs_looks.specs.Judgement.{read_with}
use Rattle.gs_tables.proofs.places.reads_of.Given as goal

abbrev pub invariant-loop-i : goal.invariant-loop-i
invariant-loop-i l = l.reads ≡ read_with (λ x. latest x (writes_in l.table)) (take l.i (params_at l.idl.ops l.op)) (take l.i l.args)
