use Rattle.std.proofs.Common.{◌≡◌, ◌≤◌, ◌-◌, ℕ, List, [], length, map, drop}
use Rattle.gs_idl.specs.Interface.{Signature}
use Rattle.gs_idl.specs.Machine.{run, at_dir}
use Rattle.gs_idl.specs.Reading.{signs}
use Rattle.gs_idl.specs.View.{param_of}
use Rattle.gs_idl.proofs.reader.read_params.Given as goal

abbrev pub invariant-params : goal.invariant-params
invariant-params l = record {
  within : l.at ≤ length l.tokens;
  onward : l.initial.at ≤ l.at;
  few : length l.params.items ≤ 16;
  moves : (x : List ℕ) (os : List Signature) (f : List ℕ) → run l.initial.at (at_dir x os f []) (drop l.initial.at (signs l.tokens)) ≡ run l.at (at_dir x os f (map param_of l.params.items)) (drop l.at (signs l.tokens));
}

abbrev pub decreases-params : goal.decreases-params
decreases-params l = length l.tokens - l.at
