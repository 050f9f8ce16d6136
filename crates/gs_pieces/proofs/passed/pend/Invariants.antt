use Rattle.std.proofs.Common.{◌≡◌, suc, drop, map}
use Rattle.gs_talk.specs.Talk.{pended}
use Rattle.gs_orders.specs.Steps.{handed_of}
use Rattle.gs_pieces.proofs.passed.pend.Given as goal

abbrev pub invariant-loop-j : goal.invariant-loop-j
invariant-loop-j l = pended l.n (suc l.j) (map handed_of (drop l.j l.args)) l.vars.items ≡ pended l.n 1 (map handed_of l.args) l.fn.vars.items
