use Rattle.std.proofs.Common.{◌≡◌, map, take}
use Rattle.gs_tree.specs.View.{var_of}
use Rattle.gs_talk.specs.Talk.{first_slot}
use Rattle.gs_main.proofs.begin.first_slots.Given as goal

abbrev pub invariant-loop-var : goal.invariant-loop-var
invariant-loop-var l = l.slots.items ≡ map (λ v. first_slot v.1) (map var_of (take l.var-index l.vars))
