use Rattle.std.proofs.Common.{◌≡◌, ◌<◌, ◌≤◌, ◌+◌, ℕ, length, slice_index}
use Rattle.gs_plan.specs.Sums.{total_of}
use Rattle.gs_plan.specs.State.{open_pair}
use Rattle.gs_plan.proofs.schedule.count_waits.Given as goal

abbrev pub invariant-loop-after : goal.invariant-loop-after
invariant-loop-after l = record {
  whole : length l.left.items ≡ l.tasks;
  small : (j : ℕ) → slice_index l.left.items j ≤ l.after-index + 1;
  counts : (j : ℕ) → j < l.tasks → slice_index l.left.items j ≡ total_of (open_pair l.ties.afters.items (λ e. 0) j) l.after-index + 1;
}
