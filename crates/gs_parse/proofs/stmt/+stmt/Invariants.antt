use Rattle.std.proofs.Common.{◌≤◌, ◌+◌, ◌-◌, ◌*◌, ◌^◌, [], map}
use Rattle.gs_tree.specs.View.{code_of}
use Rattle.gs_parse.specs.Blocks.{closed_of}
use Rattle.gs_parse.specs.Grammar.{rule}
use Rattle.gs_parse.specs.Notation.{closed, stmts}
use Rattle.gs_parse.specs.Reads.{left}
use Rattle.gs_parse.specs.Words.{word_sign}
use Rattle.gs_parse.specs.Frame.{Onward}
use Rattle.gs_parse.proofs.stmt.+stmt.Given as goal

abbrev pub decreases-read_rest : goal.decreases-read_rest
decreases-read_rest l = (65 - l.depth) * 4 + 1

abbrev pub decreases-read_if : goal.decreases-read_if
decreases-read_if l = (65 - l.depth) * 4

abbrev pub decreases-read_while : goal.decreases-read_while
decreases-read_while l = (65 - l.depth) * 4

abbrev pub decreases-read_for : goal.decreases-read_for
decreases-read_for l = (65 - l.depth) * 4

abbrev pub decreases-read_body : goal.decreases-read_body
decreases-read_body l = (65 - l.depth) * 4 + 3

abbrev pub decreases-read_stmts : goal.decreases-read_stmts
decreases-read_stmts l = (65 - l.depth) * 4 + 2

abbrev pub invariant-read_stmts-stmts : goal.invariant-read_stmts-stmts
invariant-read_stmts-stmts l = record {
  onward : l.fn.at ≤ l.at;
  reads : Onward closed (rule (stmts l.depth (word_sign l.closer) [])) (rule (stmts l.depth (word_sign l.closer) (map code_of l.body.items))) closed_of (left l.tokens l.fn.at) (left l.tokens l.at);
}

abbrev pub decreases-read_stmts-stmts : goal.decreases-read_stmts-stmts
decreases-read_stmts-stmts l = 2 ^ 64 - l.at
