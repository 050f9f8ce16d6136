use Rattle.std.proofs.Common.{nat_eq, ◌≡◌, ℕ, Some, take, if◌then◌else◌}
use Rattle.std.specs.HashMap.{get}
use Rattle.gs_plan.specs.Actions.{is_among}
use Rattle.gs_plan.proofs.scan.write_files.Given as goal

abbrev pub invariant-loop-name : goal.invariant-loop-name
invariant-loop-name l = (x : ℕ) → get nat_eq l.writers x ≡ (if is_among x (take l.name-index l.writes) then Some l.task else get nat_eq l.fn.writers x)
