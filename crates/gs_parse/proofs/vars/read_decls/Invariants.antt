use Rattle.std.proofs.Common.{[], ◌≤◌, ◌-◌, ◌^◌}
use Rattle.gs_parse.specs.Grammar.{rule}
use Rattle.gs_parse.specs.Notation.{declared, decls}
use Rattle.gs_parse.specs.Reads.{left}
use Rattle.gs_parse.specs.Frame.{declared_of, Onward}
use Rattle.gs_parse.proofs.vars.read_decls.Given as goal

abbrev pub invariant-decls : goal.invariant-decls
invariant-decls l = record {
  onward : l.fn.at ≤ l.at;
  reads : Onward declared (rule (decls (record { vars = []; first = [] }))) (rule (decls (declared_of l.all))) declared_of (left l.tokens l.fn.at) (left l.tokens l.at);
}

abbrev pub decreases-decls : goal.decreases-decls
decreases-decls l = 2 ^ 64 - l.at
