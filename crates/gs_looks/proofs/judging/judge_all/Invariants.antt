use Rattle.std.proofs.Common.{◌≡◌}
use Rattle.gs_idl.specs.Interface.{params_at}
use Rattle.gs_names.specs.Table.{writes_in}
use Rattle.gs_names.specs.Writes.{latest}
use Rattle.gs_looks.specs.Looked.{looks_in}
use Rattle.gs_looks.proofs.Placing.{from}
use Rattle.gs_looks.proofs.judging.judge_all.Given as goal

abbrev pub invariant-loop-i : goal.invariant-loop-i
invariant-loop-i l =
    from (λ x. latest x (writes_in l.table)) (looks_in l.looks) l.mains (params_at l.idl.ops l.op) l.args 0
    ≡ from (λ x. latest x (writes_in l.table)) (looks_in l.looks) l.mains (params_at l.idl.ops l.op) l.args l.i
