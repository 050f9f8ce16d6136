use Rattle.std.proofs.Common.{◌≡◌, ◌++◌, ◌∷◌, [], take}
use Rattle.std.specs.List.{flat_map}
use Rattle.gs_tree.specs.Printed.{escaped}
use Rattle.gs_tree.proofs.put.put_string.Given as goal

abbrev pub invariant-loop-b : goal.invariant-loop-b
invariant-loop-b l = l.out.items ≡ l.fn.out.items ++ (34 ∷ [] ++ flat_map escaped (take l.b-index l.s))
