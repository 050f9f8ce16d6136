use Rattle.std.proofs.Common.{◌≡◌, drop}
use Rattle.gs_talk.specs.Values.{values_of}
use Rattle.gs_talk.specs.View.{all_placed_of}
use Rattle.gs_talk.proofs.Several.{after_all}
use Rattle.gs_talk.proofs.evaluate.values.Given as goal

abbrev pub invariant-loop-e : goal.invariant-loop-e
invariant-loop-e l = after_all l.all.items (values_of (all_placed_of (drop l.e-index l.es)) l.vars) ≡ values_of (all_placed_of l.es) l.vars
