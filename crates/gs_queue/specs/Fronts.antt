-- Tasks by number, and the first of each operation and length.
use Rattle.std.specs.Prelude.{◌≡◌, ◌≤◌, ◌<◌, ◌-◌, ◌==◌, ◌&&◌, ◌||◌, nat_le, ℕ, zero, suc, Bool, true, false, List, [], ◌∷◌, Option, Some, None, slice_get, slice_index, if◌then◌else◌}
use Rattle.gs_broker.specs.declared.choice.Ready.{Ready}
use Rattle.gs_queue.specs.Numbered.{rises}

abbrev pub flat : Option (Option Ready) → Option Ready
flat None = None
flat (Some o) = o

-- the task of this number, from 1
abbrev pub task_at : List (Option Ready) → ℕ → Option Ready
task_at tasks zero = None
task_at tasks (suc n) = flat (slice_get tasks n)

-- what stands at this number, from 1
abbrev pub last_at : List ℕ → ℕ → ℕ
last_at last n = slice_index last (n - 1)

-- each task stands at its number
abbrev pub AreNumbered : (ℕ → Option Ready) → Type 0
AreNumbered task = (n : ℕ) (r : Ready) → task n ≡ Some r → r.n ≡ n

-- the tasks, and this one
abbrev pub with_task : Ready → (ℕ → Option Ready) → ℕ → Option Ready
with_task r task m = if r.n == m then Some r else task m

-- the tasks but this one
abbrev pub without_task : ℕ → (ℕ → Option Ready) → ℕ → Option Ready
without_task n task m = if n == m then None else task m

-- the task stands in the list
abbrev pub IsIn : Ready → List Ready → Type 0
IsIn r rs = (i : ℕ) × (slice_get rs i ≡ Some r)

-- whether they have one operation and one length
abbrev pub are_alike : Ready → Ready → Bool
are_alike r s = (r.op == s.op) && (r.bytes == s.bytes)

-- whether the front is like task n and no later, and `last` of it no less
abbrev pub leads : (ℕ → ℕ) → ℕ → Ready → Ready → Bool
leads last n r f = are_alike f r && (nat_le f.n n && nat_le n (last f.n))

-- whether a front leads task n
abbrev pub is_led : (ℕ → ℕ) → ℕ → Ready → List Ready → Bool
is_led last n r [] = false
is_led last n r (f ∷ fs) = leads last n r f || is_led last n r fs

-- listed tasks by rising number, no two of them alike, that lead each listed task
pub record AreFronts
    (size : ℕ) (task : ℕ → Option Ready) (last : ℕ → ℕ) (fronts : List Ready) : Type 0 where
  pub rising : rises 1 size fronts ≡ true
  pub listed : (f : Ready) → IsIn f fronts → task f.n ≡ Some f
  pub apart : (f g : Ready) → IsIn f fronts → IsIn g fronts → are_alike f g ≡ true → f.n ≡ g.n
  pub led : (n : ℕ) (r : Ready) → task n ≡ Some r → is_led last n r fronts ≡ true

-- a front like the task, and no later than number n
pub record HasFront (fronts : List Ready) (n : ℕ) (r : Ready) : Type 0 where
  pub place : ℕ
  pub front : Ready
  pub stands : slice_get fronts place ≡ Some front
  pub op : front.op ≡ r.op
  pub bytes : front.bytes ≡ r.bytes
  pub first : front.n ≤ n

-- listed tasks, with one for each listed task that is like it and no later
pub record StandForAll (task : ℕ → Option Ready) (fronts : List Ready) : Type 0 where
  pub listed : (i : ℕ) (f : Ready) → slice_get fronts i ≡ Some f → task f.n ≡ Some f
  pub first : (n : ℕ) (r : Ready) → task n ≡ Some r → HasFront fronts n r

-- a task of the list that is like this one, or there is none
abbrev pub IsAlikeIn : List Ready → Ready → Option Ready → Type 0
IsAlikeIn fronts r None = (f : Ready) → IsIn f fronts → are_alike f r ≡ false
IsAlikeIn fronts r (Some f) = IsIn f fronts × (are_alike f r ≡ true)

-- no task like this one is listed behind it and below `end`
abbrev pub NoneBetween : (ℕ → Option Ready) → Ready → ℕ → Type 0
NoneBetween task f end = (m : ℕ) (r : Ready) → f.n < m → m < end → task m ≡ Some r →
    are_alike f r ≡ false

-- the next listed task that is like this one, up to number `last`, or there is none
abbrev pub IsNextAlike : (ℕ → Option Ready) → Ready → ℕ → Option Ready → Type 0
IsNextAlike task f last None = NoneBetween task f (suc last)
IsNextAlike task f last (Some g) =
    (task g.n ≡ Some g) × (f.n < g.n) × (g.n ≤ last) × (are_alike f g ≡ true)
    × NoneBetween task f g.n

-- the task, where it is like this one
abbrev pub if_alike : Ready → Option Ready → Option Ready
if_alike f None = None
if_alike f (Some r) = if are_alike f r then Some r else None

-- whether the number stands in the list
abbrev pub stands_in : ℕ → List Ready → Bool
stands_in n [] = false
stands_in n (f ∷ fs) = (f.n == n) || stands_in n fs
