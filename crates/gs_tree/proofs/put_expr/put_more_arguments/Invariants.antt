use Rattle.std.proofs.Common.{◌≡◌, ◌++◌, map, drop}
use Rattle.gs_tree.specs.Printed.{more_passed}
use Rattle.gs_tree.specs.View.{passed_of}
use Rattle.gs_tree.proofs.put_expr.put_more_arguments.Given as goal

abbrev pub invariant-loop-a : goal.invariant-loop-a
invariant-loop-a l = l.out.items ++ more_passed (map passed_of (drop l.a-index l.args)) ≡ l.fn.out.items ++ more_passed (map passed_of l.args)
