use Rattle.std.proofs.Common.{◌≤◌, ◌-◌, ◌^◌, [], map}
use Rattle.gs_tree.specs.View.{term_of}
use Rattle.gs_parse.specs.Grammar.{rule}
use Rattle.gs_parse.specs.Notation.{terms, more_terms}
use Rattle.gs_parse.specs.Reads.{left, terms_in}
use Rattle.gs_parse.specs.Frame.{Onward}
use Rattle.gs_parse.proofs.terms.read_more_terms.Given as goal

abbrev pub invariant-terms : goal.invariant-terms
invariant-terms l = record {
  onward : l.fn.at ≤ l.at;
  reads : Onward terms (rule (more_terms [])) (rule (more_terms (map term_of l.all.items))) terms_in (left l.tokens l.fn.at) (left l.tokens l.at);
}

abbrev pub decreases-terms : goal.decreases-terms
decreases-terms l = 2 ^ 64 - l.at
