-- Tasks that no worker can take any more.
use Rattle.std.specs.Prelude.{◌≡◌, ℕ, ◌≤◌, Bool, List, [], ◌∷◌, Option, Some, None, length, slice_index, slice_get, if◌then◌else◌}
use Rattle.gs_broker.specs.Outcome.{lesser}
use Rattle.gs_broker.specs.Counts.{has_live}
use Rattle.gs_broker.specs.Workers.{takes_at}
use Rattle.gs_broker.specs.declared.workers.Worker.{Worker}
use Rattle.gs_broker.specs.declared.choice.Ready.{Ready}

-- whether a worker that takes the operation has not failed too often
abbrev pub live_in : List Worker → List ℕ → ℕ → Bool
live_in workers lapses op = has_live (takes_at workers) (slice_index lapses) op (length workers)

abbrev pub scan_stranded : (ℕ → Bool) → List Ready → Option ℕ → Option ℕ
scan_stranded live [] least = least
scan_stranded live (r ∷ rs) least =
    scan_stranded live rs (if live r.op then least else lesser least r.n)

-- the least listed task of an operation that is stranded; or there is none
abbrev pub IsLeastStranded : (ℕ → Type 0) → List Ready → Option ℕ → Type 0
IsLeastStranded stranded ready None =
    (i : ℕ) (r : Ready) → slice_get ready i ≡ Some r → stranded r.op → ⊥
IsLeastStranded stranded ready (Some n) =
    ((i : ℕ) × (r : Ready) × (slice_get ready i ≡ Some r) × (r.n ≡ n) × stranded r.op)
    × ((j : ℕ) (s : Ready) → slice_get ready j ≡ Some s → stranded s.op → n ≤ s.n)
