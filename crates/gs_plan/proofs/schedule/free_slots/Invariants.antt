use Rattle.std.proofs.Common.{◌≡◌, ◌<◌, ◌≤◌, ℕ, length, slice_index}
use Rattle.gs_plan.specs.declared.keys.TheConstants.{NEVER}
use Rattle.gs_plan.proofs.schedule.free_slots.Given as goal

abbrev pub invariant-loop-slot : goal.invariant-loop-slot
invariant-loop-slot l = record {
  places : length l.keys ≡ 1024;
  inside : (s : ℕ) → s < l.slot → slice_index l.keys s ≡ 0;
  outside : (s : ℕ) → l.slot ≤ s → s < 1024 → slice_index l.keys s ≡ NEVER;
}
