use Rattle.std.proofs.Common.{◌≡◌, ◌++◌, take}
use Rattle.std.specs.List.{flat_map}
use Rattle.gs_report.specs.Report.{var_line}
use Rattle.gs_report.proofs.values.put_vars.Given as goal

abbrev pub invariant-loop-v : goal.invariant-loop-v
invariant-loop-v l =
    l.text.items ≡ l.fn.text.items ++ flat_map var_line (take l.v-index l.vars)
