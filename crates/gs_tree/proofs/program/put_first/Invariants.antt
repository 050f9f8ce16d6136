use Rattle.std.proofs.Common.{◌≡◌, ◌++◌, map, drop}
use Rattle.gs_tree.specs.Printed.{first_text}
use Rattle.gs_tree.specs.View.{setting_of}
use Rattle.gs_tree.proofs.program.put_first.Given as goal

abbrev pub invariant-loop-a : goal.invariant-loop-a
invariant-loop-a l = l.out.items ++ first_text (map setting_of (drop l.a-index l.first)) ≡ l.fn.out.items ++ first_text (map setting_of l.first)
