-- What a graph says, as plain functions. Tasks are numbered from 1.
use Rattle.std.specs.Prelude.{◌≡◌, ℕ, zero, suc, ◌<◌, ◌≤◌, Bool, true, false, List, [], map}
use Rattle.gs_types.specs.declared.action.Action.{Action}
use Rattle.gs_graph.specs.Numbers.{has, rises}
use Rattle.gs_graph.specs.Counted.{size_in, ended_in, waits_in, due_in, after_in}
use Rattle.gs_graph.specs.declared.graph.Graph.{Graph}

-- who waits for whom by numbers from 1, where it is told by places from 0
abbrev pub by_number : (ℕ → ℕ → Bool) → ℕ → ℕ → Bool
by_number waits zero p = false
by_number waits (suc m) zero = false
by_number waits (suc m) (suc p) = waits m p

-- how many tasks were added
unfoldable pub count_in : Graph → ℕ
count_in g = size_in g.counters

-- whether a task has finished
unfoldable pub done_in : Graph → ℕ → Bool
done_in g zero = false
done_in g (suc m) = ended_in g.counters m

-- whether task n has task p as a producer
unfoldable pub needs_in : Graph → ℕ → ℕ → Bool
needs_in g n p = by_number (waits_in g.counters) n p

-- the ready tasks, by rising number
unfoldable pub ready_in : Graph → List ℕ
ready_in g = map suc (due_in g.counters)

-- the tasks that have task n as a producer, as often as they have it
unfoldable pub followers_in : Graph → ℕ → List ℕ
followers_in g zero = []
followers_in g (suc p) = map suc (after_in g.counters p)

-- the actions that were noted, in order
unfoldable pub actions_in : Graph → List Action
actions_in g = g.actions

-- the task was added and has not finished, and its producers are all finished
pub record IsReady (needs : ℕ → ℕ → Bool) (done : ℕ → Bool) (count n : ℕ) : Type 0 where
  pub first : 0 < n
  pub added : n ≤ count
  pub unfinished : done n ≡ false
  pub produced : (p : ℕ) → needs n p ≡ true → done p ≡ true

-- the list has exactly the ready tasks, by rising number
pub record IsReadyList
    (needs : ℕ → ℕ → Bool) (done : ℕ → Bool) (count : ℕ) (tasks : List ℕ) : Type 0 where
  pub rising : rises 1 (suc count) tasks ≡ true
  pub sound : (n : ℕ) → has n tasks ≡ true → IsReady needs done count n
  pub full : (n : ℕ) → IsReady needs done count n → has n tasks ≡ true

-- the graph lists exactly its ready tasks, by rising number
abbrev pub ListsReady : Graph → Type 0
ListsReady g = IsReadyList (needs_in g) (done_in g) (count_in g) (ready_in g)

-- the followers of task n are exactly the tasks that have it as a producer
abbrev pub ListsFollowers : Graph → ℕ → Type 0
ListsFollowers g n = (m : ℕ) → has m (followers_in g n) ≡ needs_in g m n

-- both have the same tasks, waiting for the same ones, with the same ones finished
pub record SameTasks (old new : Graph) : Type 0 where
  pub count : count_in new ≡ count_in old
  pub done : (m : ℕ) → done_in new m ≡ done_in old m
  pub needs : (m p : ℕ) → needs_in new m p ≡ needs_in old m p
  pub ready : ready_in new ≡ ready_in old
