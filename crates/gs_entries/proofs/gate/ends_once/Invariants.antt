use Rattle.std.proofs.Common.{◌≡◌, drop, false}
use Rattle.gs_entries.specs.Gate.{ends_once}
use Rattle.gs_entries.proofs.gate.ends_once.Given as goal

abbrev pub invariant-loop-action : goal.invariant-loop-action
invariant-loop-action l = ends_once l.ended (drop l.action-index l.actions) ≡ ends_once false l.actions
