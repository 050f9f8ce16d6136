use Rattle.std.proofs.Common.{◌≡◌, ◌++◌, map, drop}
use Rattle.gs_tree.specs.Printed.{vars_text}
use Rattle.gs_tree.specs.View.{var_of}
use Rattle.gs_tree.proofs.program.put_vars.Given as goal

abbrev pub invariant-loop-v : goal.invariant-loop-v
invariant-loop-v l = l.out.items ++ vars_text (map var_of (drop l.v-index l.vars)) ≡ l.fn.out.items ++ vars_text (map var_of l.vars)
