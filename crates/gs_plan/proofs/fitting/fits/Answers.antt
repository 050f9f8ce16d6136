use Rattle.std.proofs.Common.{ℕ, get_or, sym, subst}
use Rattle.gs_types.specs.declared.action.Action.{Action}
use Rattle.gs_plan.specs.Fits.{IsInPlace}
use Rattle.gs_plan.proofs.Newest.{in_place_at}
use Rattle.gs_plan.proofs.fitting.fits.Goals as goal

pub returns-then-not-is_in_place : goal.returns-then-not-is_in_place
returns-then-not-is_in_place c = (
  λ e. absurd cc,
  λ fit.
      let at = in_place_at c.args.ops c.args.actions.now c.loop-action.action-index c.action-item.result c.loop-action-test.true fit.each in
      let here = subst (λ (n : ℕ). IsInPlace c.args.ops n (get_or c.args.actions.now c.loop-action.action-index c.action-item.result)) (sym c.loop-action.invariant.count) at in
      c.if-not-is_in_place.ensures.1 (subst (λ (a : Action). IsInPlace c.args.ops c.loop-action.calls a) (sym c.action-item.is) here),
)
