use Rattle.std.proofs.Common.{◌≤◌, ◌-◌, ◌^◌, [], ◌∷◌, map}
use Rattle.gs_tree.specs.View.{passed_of}
use Rattle.gs_parse.specs.Grammar.{rule}
use Rattle.gs_parse.specs.Notation.{all_passed, arg, more_args, read, gives}
use Rattle.gs_parse.specs.Reads.{left, passes_in}
use Rattle.gs_parse.specs.Frame.{Onward}
use Rattle.gs_parse.proofs.args.read_args.Given as goal

abbrev pub invariant-more : goal.invariant-more
invariant-more l = record {
  onward : l.fn.at ≤ l.at;
  reads : Onward all_passed (read arg (λ a. read (more_args (a ∷ [])) (λ all. gives all))) (rule (more_args (map passed_of l.all.items))) passes_in (left l.tokens l.fn.at) (left l.tokens l.at);
}

abbrev pub decreases-more : goal.decreases-more
decreases-more l = 2 ^ 64 - l.at
