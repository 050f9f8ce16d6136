-- The choice of a start.
use Rattle.std.specs.Prelude.{◌≡◌, ℕ, zero, suc, ◌<◌, ◌≤◌, ◌||◌, ◌&&◌, nat_lt, nat_eq, Bool, true, false, List, [], ◌∷◌, Option, Some, None, slice_get, if◌then◌else◌}
use Rattle.gs_types.specs.declared.limits.TheConstants.{OPERATION_LIMIT}
use Rattle.gs_policy.specs.declared.limits.TheConstants.{BYTES_LIMIT}
use Rattle.gs_policy.specs.Cost.{Cost}
use Rattle.gs_broker.specs.declared.choice.Ready.{Ready}
use Rattle.gs_broker.specs.declared.choice.Pair.{Pair}

-- the task's operation and length are in the range at which costs are asked for
abbrev pub IsTaskInRange : Ready → Type 0
IsTaskInRange r = (r.op < OPERATION_LIMIT) × (r.bytes ≤ BYTES_LIMIT)

-- each listed task is in the range
abbrev pub AreInRange : List Ready → Type 0
AreInRange ready = (i : ℕ) (r : Ready) → slice_get ready i ≡ Some r → IsTaskInRange r

-- cheaper, or as cheap and of an earlier task, or of the same task and an earlier worker
abbrev pub before : Pair → Pair → Bool
before a b =
    nat_lt a.cost b.cost
    || (nat_eq a.cost b.cost
    && (nat_lt a.n b.n || (nat_eq a.n b.n && nat_lt a.worker b.worker)))

abbrev pub better : Option Pair → Pair → Option Pair
better None p = Some p
better (Some q) p = if before p q then Some p else Some q

abbrev pub pair_of : Cost → ℕ → Ready → Pair
pair_of cost w r = record { cost = cost r.op w r.bytes; n = r.n; worker = w }

-- the best of what was found before and what the worker may take
abbrev pub scan_tasks : Cost → (ℕ → Bool) → ℕ → List Ready → Option Pair → Option Pair
scan_tasks cost takes w [] best = best
scan_tasks cost takes w (r ∷ rs) best =
    scan_tasks cost takes w rs (if takes r.op then better best (pair_of cost w r) else best)

-- the same over the first workers
abbrev pub scan_workers : Cost → (ℕ → ℕ → Bool) → (ℕ → Bool) → List Ready → ℕ → Option Pair
scan_workers cost takes usable ready zero = None
scan_workers cost takes usable ready (suc w) =
    if usable w
    then scan_tasks cost (takes w) w ready (scan_workers cost takes usable ready w)
    else scan_workers cost takes usable ready w

-- task n is listed, worker w takes it and is usable, and no other such pair is before this one
pub record IsLeastPair (cost : Cost) (takes : ℕ → ℕ → Bool) (usable : ℕ → Bool)
    (ready : List Ready) (n w : ℕ) : Type 0 where
  pub place : ℕ
  pub task : Ready
  pub listed : slice_get ready place ≡ Some task
  pub number : task.n ≡ n
  pub taken : takes w task.op ≡ true
  pub free : usable w ≡ true
  pub least : (i u : ℕ) (r : Ready) → slice_get ready i ≡ Some r → takes u r.op ≡ true →
      usable u ≡ true → before (pair_of cost u r) (pair_of cost w task) ≡ false

-- the least pair of a listed task and a usable worker that takes it; or there is no such pair
abbrev pub IsChosen :
    Cost → (ℕ → ℕ → Bool) → (ℕ → Bool) → List Ready → Option (ℕ × ℕ) → Type 0
IsChosen cost takes usable ready None =
    (i w : ℕ) (r : Ready) → slice_get ready i ≡ Some r → takes w r.op ≡ true →
    usable w ≡ true → ⊥
IsChosen cost takes usable ready (Some p) = IsLeastPair cost takes usable ready p.0 p.1

abbrev pub chosen : Option Pair → Option (ℕ × ℕ)
chosen None = None
chosen (Some p) = Some (p.n, p.worker)
