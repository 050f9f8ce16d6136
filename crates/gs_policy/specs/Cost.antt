-- What a start costs.
use Rattle.std.specs.Prelude.{ℕ, ◌<◌, ◌≤◌}
use Rattle.gs_types.specs.declared.limits.TheConstants.{OPERATION_LIMIT, WORKER_LIMIT}
use Rattle.gs_policy.specs.declared.limits.TheConstants.{BYTES_LIMIT, COST_LIMIT}

-- the cost of an operation, by its place, on a worker, by its number, over so many bytes
abbrev pub Cost : Type 0
Cost = ℕ → ℕ → ℕ → ℕ

-- the arguments at which costs are asked for
abbrev pub IsInRange : ℕ → ℕ → ℕ → Type 0
IsInRange op worker bytes = (op < OPERATION_LIMIT) × (worker < WORKER_LIMIT) × (bytes ≤ BYTES_LIMIT)

-- in the range no cost passes the limit
abbrev pub IsLimited : Cost → Type 0
IsLimited cost =
    (op worker bytes : ℕ) → IsInRange op worker bytes → cost op worker bytes ≤ COST_LIMIT
