-- What a list of workers says.
use Rattle.std.specs.Prelude.{ℕ, ◌+◌, Bool, false, List, [], ◌∷◌, Option, Some, None, slice_get, unwrap_or}
use Rattle.gs_broker.specs.declared.workers.Worker.{Worker}

abbrev pub slots_of : Option Worker → ℕ
slots_of None = 0
slots_of (Some w) = w.slots

abbrev pub program_of : Worker → List ℕ
program_of w = w.program.items

abbrev pub takes_of : Option Worker → ℕ → Bool
takes_of None op = false
takes_of (Some w) op = unwrap_or (slice_get w.takes.items op) false

-- how many jobs a worker takes at once; none past the end of the list
abbrev pub slots_at : List Worker → ℕ → ℕ
slots_at ws w = slots_of (slice_get ws w)

-- whether a worker takes an operation
abbrev pub takes_at : List Worker → ℕ → ℕ → Bool
takes_at ws w op = takes_of (slice_get ws w) op

abbrev pub all_slots : List Worker → ℕ
all_slots [] = 0
all_slots (w ∷ ws) = w.slots + all_slots ws
