use Rattle.std.proofs.Common.{◌≤◌, ◌<◌, ◌+◌, ◌++◌, ℕ, List, All, length}
use Rattle.gs_plan.specs.Ties.{past}
use Rattle.gs_plan.specs.Chain.{IsWalk}
use Rattle.gs_plan.proofs.chain.walk.Given as goal

abbrev pub invariant-loop-next : goal.invariant-loop-next
invariant-loop-next l = record {
  walk : (rest : List ℕ) → IsWalk l.best l.next rest → IsWalk l.best l.fn.last (l.tasks.items ++ rest);
  each : All (λ k. k < length l.best) l.tasks.items;
  few : length l.tasks.items + past l.next ≤ length l.best;
}

abbrev pub decreases-loop-next : goal.decreases-loop-next
decreases-loop-next l = past l.next
