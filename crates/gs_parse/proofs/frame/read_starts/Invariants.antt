use Rattle.std.proofs.Common.{◌≤◌, ◌-◌, ◌^◌}
use Rattle.gs_parse.specs.Grammar.{rule}
use Rattle.gs_parse.specs.Notation.{settings, starts}
use Rattle.gs_parse.specs.Reads.{left}
use Rattle.gs_parse.specs.Frame.{settings_in, Onward}
use Rattle.gs_parse.proofs.frame.read_starts.Given as goal

abbrev pub invariant-starts : goal.invariant-starts
invariant-starts l = record {
  onward : l.fn.at ≤ l.at;
  reads : Onward settings (rule (starts (settings_in l.fn.so_far))) (rule (starts (settings_in l.first))) settings_in (left l.tokens l.fn.at) (left l.tokens l.at);
}

abbrev pub decreases-starts : goal.decreases-starts
decreases-starts l = 2 ^ 64 - l.at
