-- What a failure gives up.
use Rattle.std.specs.Prelude.{◌≡◌, ◌≢◌, ℕ, ◌+◌, Option, Some, None, nat_lt, if◌then◌else◌}
use Rattle.gs_broker.specs.declared.outcome.Loss.{Loss}
use Rattle.gs_broker.specs.declared.outcome.Loss.TheVariants.{Keep, Task}

-- the task is lost exactly at the last of its tries
abbrev pub IsLoss : ℕ → ℕ → ℕ → Loss → Type 0
IsLoss failures tries n Keep = failures + 1 ≢ tries
IsLoss failures tries n (Task m) = (failures + 1 ≡ tries) × (m ≡ n)

abbrev pub lesser : Option ℕ → ℕ → Option ℕ
lesser None n = Some n
lesser (Some m) n = if nat_lt n m then Some n else Some m
