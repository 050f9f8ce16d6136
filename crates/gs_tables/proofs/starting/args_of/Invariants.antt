use Rattle.std.proofs.Common.{◌≡◌, ◌++◌, drop}
use Rattle.gs_idl.specs.Interface.{params_at}
use Rattle.gs_tables.specs.Starts.{start_args_by, start_args}
use Rattle.gs_tables.proofs.starting.args_of.Given as goal

abbrev pub invariant-loop-i : goal.invariant-loop-i
invariant-loop-i l =
    let ps = params_at l.idl.ops l.row.op in
    l.args ++ start_args_by l.rows (drop l.i ps) (drop l.i l.row.reads) (drop l.i l.row.kept) (drop l.i l.row.called) ≡ start_args l.rows ps l.row
