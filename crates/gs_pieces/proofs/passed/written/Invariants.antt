use Rattle.std.proofs.Common.{◌≡◌, ◌++◌, drop}
use Rattle.gs_idl.specs.Interface.{params_at}
use Rattle.gs_talk.specs.Talk.{written_in}
use Rattle.gs_pieces.proofs.passed.written.Given as goal

abbrev pub invariant-loop-j : goal.invariant-loop-j
invariant-loop-j l = l.names.items ++ written_in (drop l.j (params_at l.idl.ops l.op)) (drop l.j l.args) ≡ written_in (params_at l.idl.ops l.op) l.args
