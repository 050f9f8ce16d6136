use Rattle.std.proofs.Common.{◌≡◌, ◌≤◌, suc, length, drop}
use Rattle.gs_idl.specs.Interface.{params_at}
use Rattle.gs_history.specs.Notes.{are_given}
use Rattle.gs_tables.proofs.noted.are_given.Given as goal

abbrev pub invariant-loop-i : goal.invariant-loop-i
invariant-loop-i l = (are_given (suc l.i) (drop l.i (params_at l.idl.ops l.op)) (drop l.next l.outs) ≡ are_given 1 (params_at l.idl.ops l.op) l.outs) × (l.next ≤ length l.outs)
