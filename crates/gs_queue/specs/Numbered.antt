-- Lists of tasks by rising number.
use Rattle.std.specs.Prelude.{ℕ, zero, suc, ◌+◌, ◌&&◌, ◌==◌, not, nat_le, nat_lt, Bool, true, false, List, [], ◌∷◌, filter, if◌then◌else◌}
use Rattle.gs_broker.specs.declared.choice.Ready.{Ready}

-- the numbers rise from `low` on, and none passes `high`
abbrev pub rises : ℕ → ℕ → List Ready → Bool
rises low high [] = true
rises low high (r ∷ rs) = nat_le low r.n && (nat_le r.n high && rises (suc r.n) high rs)

-- puts the task where its number belongs: before the first greater one
abbrev pub put_in : Ready → List Ready → List Ready
put_in r [] = r ∷ []
put_in r (x ∷ xs) = if nat_lt r.n x.n then r ∷ x ∷ xs else x ∷ put_in r xs

-- without task n
abbrev pub without : ℕ → List Ready → List Ready
without n rs = filter (λ r. not (r.n == n)) rs

abbrev pub one_unless : Bool → ℕ
one_unless true = 0
one_unless false = 1

-- how many of the tasks from 1 to n were never started
abbrev pub unknown : (ℕ → Bool) → ℕ → ℕ
unknown known zero = 0
unknown known (suc n) = unknown known n + one_unless (known (suc n))
