use Rattle.std.proofs.Common.{◌≡◌, ◌++◌, map, drop}
use Rattle.gs_tree.specs.Printed.{more_text}
use Rattle.gs_tree.specs.View.{term_of}
use Rattle.gs_tree.proofs.put_expr.put_more.Given as goal

abbrev pub invariant-loop-e : goal.invariant-loop-e
invariant-loop-e l = l.out.items ++ more_text (map term_of (drop l.e-index l.args)) ≡ l.fn.out.items ++ more_text (map term_of l.args)
