use Rattle.std.proofs.Common.{◌≤◌, ◌-◌, ◌^◌}
use Rattle.gs_parse.specs.Grammar.{rule}
use Rattle.gs_parse.specs.Notation.{declared, names}
use Rattle.gs_parse.specs.Reads.{left}
use Rattle.gs_parse.specs.Frame.{declared_of, Onward}
use Rattle.gs_parse.proofs.vars.read_names.Given as goal

abbrev pub invariant-names : goal.invariant-names
invariant-names l = record {
  onward : l.fn.at ≤ l.at;
  reads : Onward declared (rule (names l.kind (declared_of l.fn.all))) (rule (names l.kind (declared_of l.all))) declared_of (left l.tokens l.fn.at) (left l.tokens l.at);
}

abbrev pub decreases-names : goal.decreases-names
decreases-names l = 2 ^ 64 - l.at
