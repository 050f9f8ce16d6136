use Rattle.std.proofs.Common.{◌≡◌, ◌≤◌, ◌-◌, ℕ, List, [], length, map, drop}
use Rattle.gs_idl.specs.Interface.{IsOpsSized}
use Rattle.gs_idl.specs.Machine.{run, at_ops}
use Rattle.gs_idl.specs.Reading.{signs}
use Rattle.gs_idl.specs.View.{op_of}
use Rattle.gs_idl.proofs.reader.read_ops.Given as goal

abbrev pub invariant-ops : goal.invariant-ops
invariant-ops l = record {
  within : l.at ≤ length l.tokens;
  size : IsOpsSized (map op_of l.ops.items);
  moves : (x : List ℕ) → run l.initial.at (at_ops x []) (drop l.initial.at (signs l.tokens)) ≡ run l.at (at_ops x (map op_of l.ops.items)) (drop l.at (signs l.tokens));
}

abbrev pub decreases-ops : goal.decreases-ops
decreases-ops l = length l.tokens - l.at
