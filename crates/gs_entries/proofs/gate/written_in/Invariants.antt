use Rattle.std.proofs.Common.{◌≡◌, ◌++◌, drop}
use Rattle.gs_entries.specs.Gate.{written_in}
use Rattle.gs_entries.proofs.gate.written_in.Given as goal

abbrev pub invariant-loop-action : goal.invariant-loop-action
invariant-loop-action l = l.written.items ++ written_in (drop l.action-index l.actions) ≡ written_in l.actions
