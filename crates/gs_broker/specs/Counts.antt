-- Counters of workers.
use Rattle.std.specs.Prelude.{◌≡◌, ℕ, zero, suc, ◌≤◌, ◌-◌, ◌^◌, ◌||◌, ◌&&◌, nat_lt, Bool, true, false, ◌+◌, ◌==◌, List, [], ◌∷◌, Option, Some, None, if◌then◌else◌}
use Rattle.gs_types.specs.declared.limits.TheConstants.{WORKER_FAILURES}

abbrev pub total : List ℕ → ℕ
total [] = 0
total (x ∷ xs) = x + total xs

-- 1 for this worker
abbrev pub is_on : Option ℕ → ℕ → ℕ
is_on None w = 0
is_on (Some u) w = if u == w then 1 else 0

abbrev pub one : Option ℕ → ℕ
one None = 0
one (Some u) = 1

-- no counter passes it
abbrev pub most : ℕ
most = 2 ^ 32 - 1

-- each worker that takes the operation has failed too often
abbrev pub IsStranded : (ℕ → ℕ → Bool) → (ℕ → ℕ) → ℕ → Type 0
IsStranded takes lapses op = (w : ℕ) → takes w op ≡ true → WORKER_FAILURES ≤ lapses w

-- whether one of the first workers takes the operation and has not failed too often
abbrev pub has_live : (ℕ → ℕ → Bool) → (ℕ → ℕ) → ℕ → ℕ → Bool
has_live takes lapses op zero = false
has_live takes lapses op (suc w) =
    has_live takes lapses op w || (takes w op && nat_lt (lapses w) WORKER_FAILURES)
