use Rattle.std.proofs.Common.{◌≡◌, ◌≤◌, ◌-◌, length, map, drop}
use Rattle.gs_tree.specs.View.{term_of, var_of}
use Rattle.gs_tree.specs.Formats.{format_kinds}
use Rattle.gs_check.specs.Faults.{is_format}
use Rattle.gs_check.proofs.format.is_format.Given as goal

abbrev pub invariant-bytes : goal.invariant-bytes
invariant-bytes l = record {
  within : l.at ≤ length l.format;
  few : l.used ≤ length l.args;
  same : is_format (map var_of l.vars) (format_kinds (drop l.at l.format)) (map term_of (drop l.used l.args)) ≡ is_format (map var_of l.vars) (format_kinds l.format) (map term_of l.args);
}

abbrev pub decreases-bytes : goal.decreases-bytes
decreases-bytes l = length l.format - l.at
