-- What a graph says, as plain functions.
use Rattle.std.specs.Prelude.{◌≡◌, ℕ, ◌<◌, Bool, true, false, List, length}
use Rattle.gs_graph.specs.Numbers.{has, rises}
use Rattle.gs_graph.specs.Edges.{after, done_at}
use Rattle.gs_graph.specs.declared.counters.Counters.{Counters}

-- how many tasks there are
unfoldable pub size_in : Counters → ℕ
size_in g = length g.missing.items

-- whether a task has finished
unfoldable pub ended_in : Counters → ℕ → Bool
ended_in g m = done_at g.done.items m

-- whether task m has p as a producer
unfoldable pub waits_in : Counters → ℕ → ℕ → Bool
waits_in g m p = has m (after g.next.items p)

-- the tasks that have p as a producer, as often as they have it
unfoldable pub after_in : Counters → ℕ → List ℕ
after_in g p = after g.next.items p

-- the task has not finished, and its producers are all finished
abbrev pub IsDue : (ℕ → ℕ → Bool) → (ℕ → Bool) → ℕ → ℕ → Type 0
IsDue needs done count m =
    (m < count) × (done m ≡ false) × ((p : ℕ) → needs m p ≡ true → done p ≡ true)

-- the ready tasks by rising number
unfoldable pub due_in : Counters → List ℕ
due_in g = g.ready.items

-- the list has exactly the ready tasks, by rising number
pub record IsDueList
    (needs : ℕ → ℕ → Bool) (done : ℕ → Bool) (count : ℕ) (tasks : List ℕ) : Type 0 where
  pub rising : rises 0 count tasks ≡ true
  pub sound : (m : ℕ) → has m tasks ≡ true → IsDue needs done count m
  pub full : (m : ℕ) → IsDue needs done count m → has m tasks ≡ true

-- the counters list exactly the ready tasks, by rising number
abbrev pub ListsDue : Counters → Type 0
ListsDue g = IsDueList (waits_in g) (ended_in g) (size_in g) (due_in g)
