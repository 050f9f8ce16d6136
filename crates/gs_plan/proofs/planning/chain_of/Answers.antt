use Rattle.std.proofs.Common.{ℕ, List, Option, length, sym, subst, ◌∙◌}
use Rattle.gs_plan.specs.Chain.{AreLatestUpto, IsWalk}
use Rattle.gs_plan.proofs.Choosing.{ties_rise}
use Rattle.gs_plan.proofs.Latest.{walk_is_chain}
use Rattle.gs_plan.proofs.planning.chain_of.Goals as goal

pub returns-clause-chain : goal.returns-clause-chain
returns-clause-chain c = λ starts same.
    let longs = c.args.longs.now in
    let t = c.args.ties.now in
    let ends = c.args.ends.now in
    let best = c.in_ok-best.best.items in
    let P : ℕ → Type 0 = λ n. AreLatestUpto t n ends best in
    let Q : List (Option ℕ) → Type 0 = λ xs. IsWalk xs c.last_of-last.result c.in_ok-back.back.items in
    walk_is_chain longs starts ends t best c.last_of-last.result c.in_ok-back.back.items same c.requires.ties (c.in_ok-best.ensures.length ∙ c.requires.ends) (subst P c.requires.ends c.in_ok-best.ensures.best)
    (ties_rise t (length longs) c.requires.ties) c.requires.ends c.last_of-last.ensures (subst Q c.as_slice.ensures.value c.in_ok-back.ensures.walk)

pub returns-clause-end : goal.returns-clause-end
returns-clause-end c = λ starts same. c.end_at-end.ensures c.args.longs.now starts (sym c.requires.ends) same
