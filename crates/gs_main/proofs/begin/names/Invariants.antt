use Rattle.std.proofs.Common.{◌≡◌, map, take}
use Rattle.gs_tree.specs.View.{var_of}
use Rattle.gs_main.proofs.begin.names.Given as goal

abbrev pub invariant-loop-var : goal.invariant-loop-var
invariant-loop-var l = l.names.items ≡ map (λ v. v.0.text) (map var_of (take l.var-index l.vars))
