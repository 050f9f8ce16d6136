use Rattle.std.proofs.Common.{◌≡◌, map, drop}
use Rattle.gs_tree.specs.View.{var_of}
use Rattle.gs_tree.specs.Variables.{declared_kind}
use Rattle.gs_check.proofs.vars.find_kind.Given as goal

abbrev pub invariant-loop-v : goal.invariant-loop-v
invariant-loop-v l = declared_kind (map var_of (drop l.v-index l.vars)) l.name ≡ declared_kind (map var_of l.vars) l.name
