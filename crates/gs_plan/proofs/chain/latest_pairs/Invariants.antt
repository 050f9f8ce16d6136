use Rattle.std.proofs.Common.{◌≡◌, length}
use Rattle.gs_plan.specs.Chain.{AreLatestPairs}
use Rattle.gs_plan.proofs.chain.latest_pairs.Given as goal

abbrev pub invariant-loop-e : goal.invariant-loop-e
invariant-loop-e l = record {
  whole : length l.best.items ≡ length l.ends;
  best : AreLatestPairs l.ties l.e l.ends l.best.items;
}
