-- Sums of a function's first values, and their greatest.
use Rattle.std.specs.Prelude.{ℕ, zero, suc, ◌+◌, max}

-- the sum of f 0 .. f (n - 1)
abbrev pub total_of : (ℕ → ℕ) → ℕ → ℕ
total_of f zero = 0
total_of f (suc n) = total_of f n + f n

-- the greatest of f 0 .. f (n - 1), or 0
abbrev pub most_of : (ℕ → ℕ) → ℕ → ℕ
most_of f zero = 0
most_of f (suc n) = max (most_of f n) (f n)
