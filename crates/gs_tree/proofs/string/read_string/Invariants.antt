use Rattle.std.proofs.Common.{◌-◌, ◌≤◌, length, drop, vec_len}
use Rattle.gs_tree.specs.Quoted.{Quoted, Quotes}
use Rattle.gs_tree.proofs.Strings.{following}
use Rattle.gs_tree.proofs.string.read_string.Given as goal

abbrev pub invariant-pieces : goal.invariant-pieces
invariant-pieces l = record {
  within : l.at ≤ length l.rest;
  short : vec_len l.value ≤ 1024;
  reads : (q : Quoted) → Quotes (1024 - vec_len l.value) (drop l.at l.rest) q → Quotes 1024 l.rest (following l.value.items l.at q);
}

abbrev pub decreases-pieces : goal.decreases-pieces
decreases-pieces l = length l.rest - l.at
