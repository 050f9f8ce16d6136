use Rattle.std.proofs.Common.{◌≡◌, ◌≤◌, ◌<◌, ℕ, length}
use Rattle.gs_plan.specs.Ties.{HasNeed, waits_at}
use Rattle.gs_plan.specs.Chain.{IsLatest, AreLatestUpto}
use Rattle.gs_plan.proofs.chain.latest_needs.Given as goal

abbrev pub invariant-loop-task : goal.invariant-loop-task
invariant-loop-task l = record {
  whole : length l.best.items ≡ length l.ends;
  met : (j : ℕ) → l.task ≤ j → j < length l.ends → l.last.met ≤ waits_at l.ties j;
  latest : IsLatest (HasNeed l.ties l.last.met) l.ends l.last.task;
  best : AreLatestUpto l.ties l.task l.ends l.best.items;
}
