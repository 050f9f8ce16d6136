use Rattle.std.proofs.Common.{◌≡◌, take}
use Rattle.gs_plan.specs.Actions.{longs_of}
use Rattle.gs_plan.proofs.planning.longs.Given as goal

abbrev pub invariant-loop-action : goal.invariant-loop-action
invariant-loop-action l = l.longs.items ≡ longs_of l.durations (take l.action-index l.actions)
