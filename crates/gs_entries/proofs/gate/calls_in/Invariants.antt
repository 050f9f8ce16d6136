use Rattle.std.proofs.Common.{◌≡◌, ◌+◌, ◌≤◌, drop}
use Rattle.gs_entries.specs.Gate.{calls_in}
use Rattle.gs_entries.proofs.gate.calls_in.Given as goal

abbrev pub invariant-loop-action : goal.invariant-loop-action
invariant-loop-action l = record {
  so_far : l.count + calls_in (drop l.action-index l.actions) ≡ calls_in l.actions;
  few : l.count ≤ l.action-index;
}
