use Rattle.std.proofs.Common.{◌≡◌, ◌++◌, drop}
use Rattle.gs_entries.specs.Gate.{named_in}
use Rattle.gs_entries.proofs.gate.named_in.Given as goal

abbrev pub invariant-loop-action : goal.invariant-loop-action
invariant-loop-action l = l.named.items ++ named_in (drop l.action-index l.actions) ≡ named_in l.actions
