use Rattle.std.proofs.Common.{sym, ap, ◌∙◌, ◌++◌, ◌∷◌, [], ◌+◌, ◌-◌, length, get_or, List, ℕ}
use Rattle.gs_plan.proofs.Tables.{numbers_more}
use Rattle.gs_plan.proofs.planning.numbers.Goals as goal

pub loop-i-preserved : goal.loop-i-preserved
loop-i-preserved c =
    let back = c.args.back.now in
    c.in_ok-push.ensures.items ∙ ap (λ (xs : List ℕ). xs ++ (get_or back (length back - 1 - c.loop-i.i) 0 + 1) ∷ []) c.loop-i.invariant ∙ sym (numbers_more back c.loop-i.i c.loop-i-test.true)
