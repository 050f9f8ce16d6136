use Rattle.std.proofs.Common.{◌≡◌, ◌≤◌, drop}
use Rattle.gs_entries.specs.Gate.{names_behind, is_number, numbers}
use Rattle.gs_entries.proofs.gate.numbers.Given as goal

abbrev pub invariant-loop-name : goal.invariant-loop-name
invariant-loop-name l = record {
  so_far : is_number (names_behind l.next (drop l.name-index l.named)) l.count ≡ numbers l.named l.count;
  few : l.next ≤ l.name-index;
}
