use Rattle.std.proofs.Common.{◌≡◌, ◌<◌, ℕ, List, length, get_or, map, reverse, suc, sym, subst, ap, ◌∙◌}
use Rattle.gs_plan.specs.Schedule.{end_of}
use Rattle.gs_plan.proofs.Joining.{plan_is}
use Rattle.gs_plan.proofs.planning.plan_of.Goals as goal

pub returns : goal.returns
returns c =
    let longs = c.args.longs.now in
    let s = c.in_ok-state.state in
    let ends = c.as_slice.ensures.value in
    let T : List ℕ → Type 0 = λ xs. (k : ℕ) → k < length longs → get_or xs k 0 ≡ end_of longs s.starts.items k in
    let same = subst T (sym ends) c.in_ok-state.ensures.ends in
    plan_is c.args.slots longs c.args.ties.now s.slots.items s.starts.items s.ends.items c.in_ok-found.found.back.items c.in_ok-tasks.tasks.items _ c.requires.ties
    c.in_ok-state.ensures.rule c.in_ok-state.ensures.ends c.in_ok-tasks.ensures.slots c.in_ok-tasks.ensures.starts c.in_ok-tasks.ensures.rows
    (c.in_ok-found.ensures.end s.starts.items same) (c.in_ok-found.ensures.chain s.starts.items same)
    c.of.ensures c.total-work.ensures
    (c.of-2.ensures ∙ c.in_ok-chain.ensures ∙ ap (λ (xs : List ℕ). map suc (reverse xs)) c.as_slice-2.ensures.value)
    c.in_ok-found.ensures.length
