use Rattle.std.proofs.Common.{◌≡◌, ℕ, List, length, reverse, sym, subst, ◌∙◌, ap, arith}
use Rattle.gs_plan.specs.Actions.{precedes, longs_of}
use Rattle.gs_plan.specs.Durations.{AreDurations}
use Rattle.gs_plan.specs.Ties.{AreTies, Ordered}
use Rattle.gs_plan.specs.Planned.{IsPlan}
use Rattle.gs_plan.proofs.Newest.{in_place_numbered}
use Rattle.gs_plan.proofs.Tables.{length_longs, longs_are, precedes_rise}
use Rattle.gs_plan.proofs.Joining.{plan_same, plan_bound, plan_least}
use Rattle.gs_plan.proofs.planning.plan.Goals as goal

pub ties_of-requires-clause-numbered : goal.ties_of-requires-clause-numbered
ties_of-requires-clause-numbered c = in_place_numbered (length c.args.durations.now) (reverse c.args.actions.now) c.requires.fit.each

-- the durations of the tasks, as they are handed on
longs_same : (c : goal.After-ties-2-1) → c.as_slice.result.now ≡ longs_of c.args.durations.now c.args.actions.now
longs_same c = c.as_slice.ensures.value ∙ c.in_ok-longs.ensures

pub plan_of-requires-clause-ties : goal.plan_of-requires-clause-ties
plan_of-requires-clause-ties c =
    let P : ℕ → Type 0 = λ n. AreTies c.in_ok-ties.ties n in
    subst P (sym (ap (λ (xs : List ℕ). length xs) (longs_same c) ∙ length_longs c.args.durations.now c.args.actions.now)) c.in_ok-ties.ensures.ties

pub plan_of-requires-clause-few : goal.plan_of-requires-clause-few
plan_of-requires-clause-few c = omega (arith, ap (λ (xs : List ℕ). length xs) (longs_same c), length_longs c.args.durations.now c.args.actions.now, c.requires.fit.tasks)

pub plan_of-requires-clause-longs : goal.plan_of-requires-clause-longs
plan_of-requires-clause-longs c =
    let P : List ℕ → Type 0 = λ xs. AreDurations (length xs) xs in
    subst P (sym (longs_same c)) (longs_are c.args.durations.now c.args.actions.now c.requires.longs c.requires.fit.each)

-- the plan, by the actions
plan_here : (c : goal.After-drop-longs-2) → IsPlan c.args.slots (longs_of c.args.durations.now c.args.actions.now) (precedes c.args.actions.now) c.in_ok-plan.plan
plan_here c =
    let same = c.as_slice.ensures.value ∙ c.in_ok-longs.ensures in
    let P : List ℕ → Type 0 = λ xs. IsPlan c.args.slots xs (Ordered c.in_ok-ties.ties) c.in_ok-plan.plan in
    plan_same c.args.slots (longs_of c.args.durations.now c.args.actions.now) (Ordered c.in_ok-ties.ties) (precedes c.args.actions.now) c.in_ok-plan.plan c.in_ok-ties.ensures.sound c.in_ok-ties.ensures.full (subst P same c.in_ok-plan.ensures)

pub returns-clause-plan : goal.returns-clause-plan
returns-clause-plan c = plan_here c

pub returns-clause-bound : goal.returns-clause-bound
returns-clause-bound c =
    plan_bound c.args.slots (longs_of c.args.durations.now c.args.actions.now) (precedes c.args.actions.now) c.in_ok-plan.plan c.requires.some
    (precedes_rise (length c.args.durations.now) c.args.durations.now c.args.actions.now c.requires.fit.each) (plan_here c)

pub returns-clause-least : goal.returns-clause-least
returns-clause-least c = λ slots starts end legal ends.
    plan_least c.args.slots (longs_of c.args.durations.now c.args.actions.now) (precedes c.args.actions.now) c.in_ok-plan.plan slots starts end (plan_here c) legal ends
