use Rattle.std.proofs.Common.{◌≡◌, map, take, None}
use Rattle.gs_tree.specs.View.{var_of}
use Rattle.gs_main.proofs.begin.first_handles.Given as goal

abbrev pub invariant-loop-var : goal.invariant-loop-var
invariant-loop-var l = l.handles.items ≡ map (λ v. None) (map var_of (take l._var-index l.vars))
