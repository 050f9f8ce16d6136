-- Counts of faults.
use Rattle.std.specs.Prelude.{ℕ, ◌+◌, ◌-◌, ◌^◌, ◌≤◌, min}

-- one more, but for the last value of a `u64`, at which a count stands still
abbrev pub up : ℕ → ℕ
up n = min (n + 1) (2 ^ 64 - 1)

-- the count rose, or stands at the last value of a `u64`
abbrev pub Rises : ℕ → ℕ → Type 0
Rises old new = up old ≤ new

-- a count doesn't fall, and it rose where this happened
pub record Caused (happened : Type 0) (old new : ℕ) : Type 0 where
  pub rise : old ≤ new
  pub cause : happened → Rises old new
