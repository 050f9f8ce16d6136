-- Who waits for whom.
use Rattle.std.specs.Prelude.{ℕ, zero, suc, ◌+◌, ◌&&◌, not, nat_lt, nat_eq, Bool, true, false, List, [], ◌∷◌, Option, Some, None, slice_get, ◌++◌, ◌==◌, if◌then◌else◌}
use Rattle.std.specs.declared.vec.Vec.{Vec}
use Rattle.std.specs.declared.alloc.Global.{Global}
use Rattle.gs_graph.specs.Numbers.{has, count_of}

abbrev pub flag : Option Bool → Bool
flag None = false
flag (Some b) = b

-- whether a task has finished
abbrev pub done_at : List Bool → ℕ → Bool
done_at done m = flag (slice_get done m)

-- the tasks that have finished, and n
abbrev pub done_too : ℕ → (ℕ → Bool) → ℕ → Bool
done_too n done m = if n == m then true else done m

-- who waits for whom, and task n for these producers
abbrev pub waiting_too : ℕ → List ℕ → (ℕ → ℕ → Bool) → ℕ → ℕ → Bool
waiting_too n producers waits m p = if n == m then has p producers else waits m p

abbrev pub items_of : Option (Vec ℕ Global) → List ℕ
items_of None = []
items_of (Some v) = v.items

-- the tasks that have p as a producer, as often as they have it
abbrev pub after : List (Vec ℕ Global) → ℕ → List ℕ
after next p = items_of (slice_get next p)

abbrev pub unless_done : Bool → ℕ → ℕ
unless_done true n = 0
unless_done false n = n

-- how many of the first producers of task m have not finished
abbrev pub open_of : (ℕ → List ℕ) → (ℕ → Bool) → ℕ → ℕ → ℕ
open_of next done m zero = 0
open_of next done m (suc p) = open_of next done m p + unless_done (done p) (count_of m (next p))

-- whether the task is to be listed
abbrev pub is_due : ℕ → (ℕ → Bool) → (ℕ → ℕ) → ℕ → Bool
is_due count done missing m = nat_lt m count && (not (done m) && nat_eq (missing m) 0)

abbrev pub all_below : ℕ → List ℕ → Bool
all_below n [] = true
all_below n (x ∷ xs) = nat_lt x n && all_below n xs

-- a list of waiting tasks with n behind it, once for each time that it has the producer q
abbrev pub ends : ℕ → ℕ → List ℕ → List ℕ → List ℕ
ends n q [] xs = xs
ends n q (p ∷ ps) xs = ends n q ps (if p == q then xs ++ n ∷ [] else xs)

-- how many of these producers have not finished
abbrev pub open_in : (ℕ → Bool) → List ℕ → ℕ
open_in done [] = 0
open_in done (p ∷ ps) = unless_done (done p) 1 + open_in done ps
