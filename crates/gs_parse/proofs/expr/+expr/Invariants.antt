use Rattle.std.proofs.Common.{◌≡◌, ◌+◌, ◌≤◌, ◌-◌, ◌*◌}
use Rattle.gs_tree.specs.View.{term_of}
use Rattle.gs_parse.specs.Grammar.{rule, height}
use Rattle.gs_parse.specs.Notation.{a_term, level, tail}
use Rattle.gs_parse.specs.Reads.{left, seen}
use Rattle.gs_parse.specs.Frame.{Onward}
use Rattle.gs_parse.proofs.expr.+expr.Given as goal

abbrev pub decreases-negation : goal.decreases-negation
decreases-negation l = ((64 - l.depth) + (64 - l.groups)) * 16

abbrev pub decreases-inversion : goal.decreases-inversion
decreases-inversion l = ((64 - l.depth) + (64 - l.groups)) * 16

abbrev pub decreases-grouping : goal.decreases-grouping
decreases-grouping l = ((64 - l.depth) + (64 - l.groups)) * 16

abbrev pub decreases-atoi_call : goal.decreases-atoi_call
decreases-atoi_call l = ((64 - l.depth) + (64 - l.groups)) * 16

abbrev pub decreases-strcmp_call : goal.decreases-strcmp_call
decreases-strcmp_call l = ((64 - l.depth) + (64 - l.groups)) * 16

abbrev pub decreases-prefixed : goal.decreases-prefixed
decreases-prefixed l = ((64 - l.depth) + (64 - l.groups)) * 16 + 1

abbrev pub decreases-called : goal.decreases-called
decreases-called l = ((64 - l.depth) + (64 - l.groups)) * 16 + 1

abbrev pub decreases-operand : goal.decreases-operand
decreases-operand l = ((64 - l.depth) + (64 - l.groups)) * 16 + 2

abbrev pub decreases-binary : goal.decreases-binary
decreases-binary l = ((64 - l.depth) + (64 - l.groups)) * 16 + 3 + l.tightness

abbrev pub invariant-binary-parts : goal.invariant-binary-parts
invariant-binary-parts l = record {
  onward : l.fn.at ≤ l.at;
  room : l.depth + l.all.height ≤ 64;
  height_is : l.all.height ≡ height (term_of l.all.e);
  reads : Onward a_term (rule (level l.tightness l.depth l.groups)) (rule (tail (l.tightness - 1) l.depth l.groups (seen (left l.tokens l.fn.at) l.all))) (seen (left l.tokens l.fn.at)) (left l.tokens l.fn.at) (left l.tokens l.at);
}

abbrev pub decreases-binary-parts : goal.decreases-binary-parts
decreases-binary-parts l = 64 - l.all.height
