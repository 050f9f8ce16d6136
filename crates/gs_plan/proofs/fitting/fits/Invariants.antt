use Rattle.std.proofs.Common.{◌≡◌, ◌≤◌, reverse, take}
use Rattle.gs_plan.specs.Actions.{calls_in}
use Rattle.gs_plan.specs.Fits.{AreInPlace}
use Rattle.gs_plan.proofs.fitting.fits.Given as goal

abbrev pub invariant-loop-action : goal.invariant-loop-action
invariant-loop-action l = record {
  count : l.calls ≡ calls_in (reverse (take l.action-index l.actions));
  each : AreInPlace l.ops (reverse (take l.action-index l.actions));
  small : l.calls ≤ l.action-index;
}
