-- Which task follows which. The actions of a run are told newest first, so that those earlier than
-- one are the rest of the list.
use Rattle.std.specs.Prelude.{◌≡◌, ℕ, suc, ◌+◌, Bool, true, false, ◌==◌, List, [], ◌∷◌, Option, Some, None, ◌⊎◌, if◌then◌else◌, reverse, slice_index}
use Rattle.std.specs.List.{list_any, flat_map}
use Rattle.gs_types.specs.declared.action.Action.{Action}
use Rattle.gs_types.specs.declared.action.Action.TheVariants as act

-- ---- calls

-- the task that an action calls
abbrev pub task_of : Action → Option ℕ
task_of (act.Call n op reads writes) = Some n
task_of (act.Use n place) = None
task_of (act.Result n) = None
task_of (act.Read name) = None
task_of (act.Write name) = None
task_of act.Barrier = None
task_of act.End = None

abbrev pub counted : Option ℕ → ℕ
counted None = 0
counted (Some n) = 1

-- how many of the actions are calls
abbrev pub calls_in : List Action → ℕ
calls_in [] = 0
calls_in (a ∷ earlier) = calls_in earlier + counted (task_of a)

abbrev pub WasCalled : List Action → ℕ → Type 0
WasCalled [] n = ⊥
WasCalled (a ∷ earlier) n = (task_of a ≡ Some n) ⊎ WasCalled earlier n

-- ---- who wrote a file last

abbrev pub is_among : ℕ → List ℕ → Bool
is_among name names = list_any (λ x. x == name) names

abbrev pub writes : Action → ℕ → Bool
writes (act.Call n op reads written) name = is_among name written
writes (act.Use n place) name = false
writes (act.Result n) name = false
writes (act.Read x) name = false
writes (act.Write x) name = x == name
writes act.Barrier name = false
writes act.End name = false

-- the task that wrote the file last; none where the main program did, or nobody
abbrev pub writer_of : List Action → ℕ → Option ℕ
writer_of [] name = None
writer_of (a ∷ earlier) name = if writes a name then task_of a else writer_of earlier name

-- ---- what follows what

-- a task that reads these files truly depends on task n: n wrote one of them last
pub record DependsOn (earlier : List Action) (reads : List ℕ) (n : ℕ) : Type 0 where
  pub name : ℕ
  pub among : is_among name reads ≡ true
  pub writer : writer_of earlier name ≡ Some n

-- the action needs task n
abbrev pub Needs : List Action → Action → ℕ → Type 0
Needs earlier (act.Call m op reads written) n = ⊥
Needs earlier (act.Use m place) n = m ≡ n
Needs earlier (act.Result m) n = m ≡ n
Needs earlier (act.Read name) n = writer_of earlier name ≡ Some n
Needs earlier (act.Write name) n = ⊥
Needs earlier act.Barrier n = WasCalled earlier n
Needs earlier act.End n = WasCalled earlier n

-- one of the actions needs task n
abbrev pub IsNeeded : List Action → ℕ → Type 0
IsNeeded [] n = ⊥
IsNeeded (a ∷ earlier) n = Needs earlier a n ⊎ IsNeeded earlier n

-- the action calls task m, which follows task n
abbrev pub FollowsBy : List Action → Action → ℕ → ℕ → Type 0
FollowsBy earlier (act.Call k op reads written) m n =
    (k ≡ m) × (DependsOn earlier reads n ⊎ IsNeeded earlier n)
FollowsBy earlier (act.Use k place) m n = ⊥
FollowsBy earlier (act.Result k) m n = ⊥
FollowsBy earlier (act.Read name) m n = ⊥
FollowsBy earlier (act.Write name) m n = ⊥
FollowsBy earlier act.Barrier m n = ⊥
FollowsBy earlier act.End m n = ⊥

abbrev pub FollowsIn : List Action → ℕ → ℕ → Type 0
FollowsIn [] m n = ⊥
FollowsIn (a ∷ earlier) m n = FollowsBy earlier a m n ⊎ FollowsIn earlier m n

-- in a run of these actions, oldest first, task m follows task n
abbrev pub Follows : List Action → ℕ → ℕ → Type 0
Follows actions m n = FollowsIn (reverse actions) m n

-- the same of places from 0, the earlier task first
abbrev pub precedes : List Action → ℕ → ℕ → Type 0
precedes actions i j = Follows actions (suc j) (suc i)

-- ---- how long the tasks take

abbrev pub long_of : List ℕ → Action → List ℕ
long_of durations (act.Call n op reads written) = slice_index durations op ∷ []
long_of durations (act.Use n place) = []
long_of durations (act.Result n) = []
long_of durations (act.Read name) = []
long_of durations (act.Write name) = []
long_of durations act.Barrier = []
long_of durations act.End = []

-- for each task the duration of its operation
abbrev pub longs_of : List ℕ → List Action → List ℕ
longs_of durations actions = flat_map (long_of durations) actions
