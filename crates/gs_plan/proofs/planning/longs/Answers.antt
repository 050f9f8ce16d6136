use Rattle.std.proofs.Common.{length, reverse, take, sym, subst, ◌∙◌}
use Rattle.gs_types.specs.declared.action.Action.{Action}
use Rattle.gs_plan.specs.Actions.{calls_in}
use Rattle.gs_plan.specs.Fits.{IsInPlace}
use Rattle.gs_plan.proofs.Newest.{in_place_at}
use Rattle.gs_plan.proofs.planning.longs.Goals as goal

pub bounds-durations-op : goal.bounds-durations-op
bounds-durations-op c =
    let at = in_place_at (length c.args.durations.now) c.args.actions.now c.loop-action.action-index c.action-item.result c.loop-action-test.true c.requires in
    let P : Action → Type 0 = λ a. IsInPlace (length c.args.durations.now) (calls_in (reverse (take c.loop-action.action-index c.args.actions.now))) a in
    (subst P (sym c.action-item.is ∙ c.in-Call.is) at).1
