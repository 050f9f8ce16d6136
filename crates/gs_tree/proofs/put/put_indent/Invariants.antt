use Rattle.std.proofs.Common.{◌≡◌, ◌++◌}
use Rattle.gs_tree.specs.Printed.{indent_text}
use Rattle.gs_tree.proofs.put.put_indent.Given as goal

abbrev pub invariant-loop : goal.invariant-loop
invariant-loop l = l.out.items ≡ l.fn.out.items ++ indent_text l.counter
