use Rattle.std.proofs.Common.{◌<◌, ◌∷◌, [], ℕ, List, All, length, subst, sym, ap, length-append, arith}
use Rattle.std.proofs.lemmas.List.Elements.{All-push}
use Rattle.gs_plan.specs.Ties.{past}
use Rattle.gs_plan.proofs.Latest.{walk_step, walk_done, past_falls, task_inside}
use Rattle.gs_plan.proofs.chain.walk.Goals as goal

pub loop-next-preserved : goal.loop-next-preserved
loop-next-preserved c =
    let best = c.args.best.now in
    let inside = task_inside best c.loop-next.next c.in-Some.task (length c.loop-next.tasks.items) c.in-Some.is c.loop-next.invariant.few in
    let pushed = c.in_ok-push.ensures.items in
    let P : List ℕ → Type 0 = λ xs. All (λ k. k < length best) xs in
    record {
      walk = walk_step best c.args.last c.loop-next.next c.in-Some.task c.loop-next.tasks.items c.push.new.self.items c.in-Some.is pushed c.loop-next.invariant.walk;
      each = subst P (sym pushed) (All-push (λ (k : ℕ). k < length best) c.loop-next.tasks.items c.in-Some.task c.loop-next.invariant.each inside);
      few = omega (arith, ap (λ (xs : List ℕ). length xs) pushed, length-append c.loop-next.tasks.items (c.in-Some.task ∷ []), past_falls best c.in-Some.task 0 c.requires.falls inside, c.loop-next.invariant.few, ap past c.in-Some.is);
    }

pub returns-clause-walk : goal.returns-clause-walk
returns-clause-walk c = walk_done c.args.best.now c.args.last c.loop-next.next c.loop-next.tasks.items c.in_default.is c.loop-next.invariant.walk
