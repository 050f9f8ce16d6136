-- Sums of counters.
use Rattle.std.proofs.Common.{◌≡◌, ◌<◌, ◌≤◌, ◌+◌, ◌++◌, ℕ, zero, suc, true, refl, List, [], ◌∷◌, length, arith, get_or, drop}
use Rattle.std.specs.Prelude.{slice_set, slice_index}
use Rattle.gs_broker.specs.Counts.{total}
use Rattle.gs_broker.specs.Workers.{slots_at, takes_at, all_slots}
use Rattle.gs_broker.specs.declared.workers.Worker.{Worker}

pub total_set : (xs : List ℕ) (w v d : ℕ) → w < length xs → total (slice_set xs w v) + get_or xs w d ≡ total xs + v
total_set [] w v d lt = absurd (omega arith)
total_set (x ∷ xs) zero v d lt = omega arith
total_set (x ∷ xs) (suc w) v d lt = let h = total_set xs w v d (omega arith) in omega arith

-- a worker with slots stands in the list
pub slots_within : (ws : List Worker) (w n : ℕ) → n < slots_at ws w → w < length ws
slots_within [] w n lt = absurd (omega arith)
slots_within (x ∷ ws) zero n lt = omega arith
slots_within (x ∷ ws) (suc w) n lt = let h = slots_within ws w n lt in omega arith

-- where each counter is within its worker's slots, so is their sum
pub total_within : (bs : List ℕ) (ws : List Worker) → length bs ≡ length ws → ((w : ℕ) → slice_index bs w ≤ slots_at ws w) → total bs ≤ all_slots ws
total_within [] ws e each = omega arith
total_within (b ∷ bs) [] e each = absurd (omega arith)
total_within (b ∷ bs) (x ∷ ws) e each = let here = each 0 in let rest = total_within bs ws (omega arith) (λ w. each (suc w)) in omega arith

-- and where one worker has a free slot, the sum is below
pub total_below : (bs : List ℕ) (ws : List Worker) (w : ℕ) → length bs ≡ length ws → ((u : ℕ) → slice_index bs u ≤ slots_at ws u) → slice_index bs w < slots_at ws w → total bs < all_slots ws
total_below bs [] w e each lt = absurd (omega arith)
total_below [] (x ∷ ws) w e each lt = absurd (omega arith)
total_below (b ∷ bs) (x ∷ ws) zero e each lt = let rest = total_within bs ws (omega arith) (λ u. each (suc u)) in omega arith
total_below (b ∷ bs) (x ∷ ws) (suc w) e each lt = let here = each 0 in let rest = total_below bs ws w (omega arith) (λ u. each (suc u)) lt in omega arith

-- and so does one that takes something
pub takes_within : (ws : List Worker) (w op : ℕ) → takes_at ws w op ≡ true → w < length ws
takes_within [] w op is = absurd (cc)
takes_within (x ∷ ws) zero op is = omega arith
takes_within (x ∷ ws) (suc w) op is = let h = takes_within ws w op is in omega arith

pub slots_drop : (ws : List Worker) (i : ℕ) (d : Worker) → i < length ws → all_slots (drop i ws) ≡ (get_or ws i d).slots + all_slots (drop (suc i) ws)
slots_drop [] i d lt = absurd (omega arith)
slots_drop (w ∷ ws) zero d lt = refl
slots_drop (w ∷ ws) (suc i) d lt = slots_drop ws i d (omega arith)

pub slots_item : (ws : List Worker) (i : ℕ) (d : Worker) → i < length ws → slots_at ws i ≡ (get_or ws i d).slots
slots_item [] i d lt = absurd (omega arith)
slots_item (w ∷ ws) zero d lt = refl
slots_item (w ∷ ws) (suc i) d lt = slots_item ws i d (omega arith)

-- the slots of the workers of a list with one more
pub slots_push : (ws : List Worker) (w : Worker) (i n : ℕ) → ((u : ℕ) → slots_at ws u ≤ n) → w.slots ≤ n → slots_at (ws ++ w ∷ []) i ≤ n
slots_push [] w zero n each le = le
slots_push [] w (suc i) n each le = omega arith
slots_push (x ∷ ws) w zero n each le = each 0
slots_push (x ∷ ws) w (suc i) n each le = slots_push ws w i n (λ u. each (suc u)) le
