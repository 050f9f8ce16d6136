use Rattle.std.proofs.Common.{◌≡◌, ◌≤◌, ◌+◌, ◌*◌, drop}
use Rattle.gs_broker.specs.Workers.{all_slots}
use Rattle.gs_broker.proofs.outcome.count_slots.Given as goal

abbrev pub invariant-loop-w : goal.invariant-loop-w
invariant-loop-w l = (l.count + all_slots (drop l.w-index l.workers) ≡ all_slots l.workers) × (l.count ≤ 16 * l.w-index)
