use Rattle.std.proofs.Common.{◌≡◌, map, take}
use Rattle.gs_tree.specs.View.{term_of}
use Rattle.gs_talk.specs.Terms.{all_placed}
use Rattle.gs_talk.specs.View.{all_placed_of}
use Rattle.gs_talk.proofs.formula.formulas.Given as goal

abbrev pub invariant-loop-e : goal.invariant-loop-e
invariant-loop-e l = all_placed_of l.all.items ≡ all_placed l.names (map term_of (take l.e-index l.es))
