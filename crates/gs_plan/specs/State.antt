-- What is known while tasks are placed. A task that isn't placed has the end 0.
use Rattle.std.specs.Prelude.{◌≡◌, ℕ, ◌+◌, ◌*◌, ◌<◌, ◌≤◌, ◌≢◌, ◌⊎◌, List, length, slice_index, cond, ◌==◌, nat_lt, ◌&&◌}
use Rattle.gs_plan.specs.Sums.{total_of, most_of}
use Rattle.gs_plan.specs.Ties.{Ordered}
use Rattle.gs_plan.specs.declared.kind.TheConstants.{DURATION_LIMIT}
use Rattle.gs_plan.specs.declared.keys.TheConstants.{NEVER}
use Rattle.gs_plan.specs.declared.state.TheConstants.{TASK_PLACES, SLOT_PLACES}
use Rattle.gs_plan.specs.declared.state.State.{State}
use Rattle.gs_plan.specs.declared.state.Gate.{Gate}
use Rattle.gs_plan.specs.declared.ties.Ties.{Ties}

-- ---- the tasks that wait

-- when the task that a pair's task depends on ends, 0 while it isn't placed
abbrev pub time_at : List ℕ → List ℕ → ℕ → ℕ
time_at befores ends e = slice_index ends (slice_index befores e)

-- the same, but 0 at the pairs of one task that lie below a place
abbrev pub time_from : List ℕ → List ℕ → ℕ → ℕ → ℕ → ℕ
time_from befores ends task place e =
    cond (slice_index befores e == task && nat_lt e place) 0 (time_at befores ends e)

-- 1 for a pair of task j that is still open
abbrev pub open_pair : List ℕ → (ℕ → ℕ) → ℕ → ℕ → ℕ
open_pair afters time j e = cond (slice_index afters e == j) (cond (time e == 0) 1 0) 0

-- 1 for a task that the gate hasn't reached
abbrev pub shut_at : ℕ → ℕ → ℕ
shut_at reached j = cond (nat_lt j reached) 0 1

-- the last end of the first needs
abbrev pub last_need : List ℕ → List ℕ → ℕ → ℕ
last_need needed ends count = most_of (λ x. slice_index ends (slice_index needed x)) count

-- for a task that the gate has reached the last end of its needs
abbrev pub late_at : List ℕ → List ℕ → List ℕ → ℕ → ℕ → ℕ
late_at needed waits ends reached j =
    cond (nat_lt j reached) (last_need needed ends (slice_index waits j)) 0

-- a task's key is its time `ready` where it waits for nothing, and NEVER else
pub record AreKeys (tasks : ℕ) (ends left ready keys : List ℕ) : Type 0 where
  pub keys_each : length keys ≡ TASK_PLACES
  pub left_each : length left ≡ tasks
  pub ready_each : length ready ≡ tasks
  pub placed : (j : ℕ) → j < tasks → 0 < slice_index ends j →
      (slice_index left j ≡ 0) × (slice_index keys j ≡ NEVER)
  pub open_key : (j : ℕ) → j < tasks → slice_index ends j ≡ 0 → 0 < slice_index left j →
      slice_index keys j ≡ NEVER
  pub ready_key : (j : ℕ) → j < tasks → slice_index ends j ≡ 0 → slice_index left j ≡ 0 →
      slice_index keys j ≡ slice_index ready j
  pub outside : (j : ℕ) → tasks ≤ j → j < TASK_PLACES → slice_index keys j ≡ NEVER

-- `left` counts a task's open pairs and a shut gate, and `ready` is the last end of the others
pub record AreWaiting (tasks : ℕ) (afters : List ℕ) (time shut late : ℕ → ℕ)
    (ends left ready keys : List ℕ) : Type 0 where
  pub keyed : AreKeys tasks ends left ready keys
  pub left_is : (j : ℕ) → j < tasks → slice_index left j
      ≡ total_of (λ e. open_pair afters time j e) (length afters) + shut j
  pub after_pairs : (e : ℕ) → e < length afters →
      time e ≤ slice_index ready (slice_index afters e)
  pub after_needs : (j : ℕ) → j < tasks → late j ≤ slice_index ready j
  pub at_last : (j t : ℕ) → j < tasks →
      ((e : ℕ) → e < length afters → slice_index afters e ≡ j → time e ≤ t) → late j ≤ t →
      slice_index ready j ≤ t

-- how far the gate has come: the needs of the tasks that it has reached are placed, and so are the
-- first `met` of all
pub record IsGate (tasks : ℕ) (needed waits ends : List ℕ) (reached met time : ℕ) : Type 0 where
  pub reached_in : reached ≤ tasks
  pub met_in : met ≤ length needed
  pub all_met : (x : ℕ) → x < met → 0 < slice_index ends (slice_index needed x)
  pub time_is : time ≡ last_need needed ends met
  pub passed : (j : ℕ) → j < reached → slice_index waits j ≤ met
  pub ahead : (j : ℕ) → reached ≤ j → j < tasks → met ≤ slice_index waits j

-- the gate can't go on: a need of the next task isn't placed
abbrev pub IsHeld : ℕ → List ℕ → List ℕ → List ℕ → ℕ → ℕ → Type 0
IsHeld tasks needed waits ends reached met =
    reached < tasks →
    (met < slice_index waits reached) × (slice_index ends (slice_index needed met) ≡ 0)

-- task j is told that one of those that it follows ends at v
pub record IsTold (j v : ℕ) (left ready keys left' ready' keys' : List ℕ) : Type 0 where
  pub left_each : length left' ≡ length left
  pub ready_each : length ready' ≡ length ready
  pub keys_each : length keys' ≡ length keys
  pub less : slice_index left' j + 1 ≡ slice_index left j
  pub lefts : (k : ℕ) → k ≢ j → slice_index left' k ≡ slice_index left k
  pub more : v ≤ slice_index ready' j
  pub kept : slice_index ready j ≤ slice_index ready' j
  pub one : (slice_index ready' j ≡ v) ⊎ (slice_index ready' j ≡ slice_index ready j)
  pub readies : (k : ℕ) → k ≢ j → slice_index ready' k ≡ slice_index ready k
  pub other_keys : (k : ℕ) → k ≢ j → slice_index keys' k ≡ slice_index keys k
  pub kept_key : 0 < slice_index left' j → slice_index keys' j ≡ slice_index keys j
  pub new_key : slice_index left' j ≡ 0 → slice_index keys' j ≡ slice_index ready' j

-- ---- the schedule so far

-- at the time t each slot has a placed task at work
abbrev pub AreTakenSoFar : ℕ → ℕ → List ℕ → List ℕ → List ℕ → ℕ → Type 0
AreTakenSoFar count tasks starts ends slots t =
    (s : ℕ) → s < count →
    (k : ℕ) × (k < tasks) × (slice_index slots k ≡ s)
    × (slice_index starts k ≤ t) × (t < slice_index ends k)

-- each task that j follows is placed and has ended by the time t
abbrev pub HaveEnded : (ℕ → ℕ → Type 0) → List ℕ → ℕ → ℕ → Type 0
HaveEnded precedes ends j t =
    (i : ℕ) → precedes i j → (0 < slice_index ends i) × (slice_index ends i ≤ t)

-- as task j starts, the slot has a task at work that was placed before
abbrev pub IsTakenByThen : ℕ → List ℕ → List ℕ → List ℕ → ℕ → ℕ → Type 0
IsTakenByThen tasks starts ends slots j s =
    (k : ℕ) × (k < tasks) × (0 < slice_index ends k) × (slice_index slots k ≡ s)
    × (slice_index starts j < slice_index ends k)
    × ((slice_index starts k < slice_index starts j)
    ⊎ ((slice_index starts k ≡ slice_index starts j) × (k < j)))

-- the schedule of the tasks placed so far, up to the time `clock`; a slot's key in `free` is the
-- time from which it is free
pub record IsRun (count : ℕ) (longs : List ℕ) (precedes : ℕ → ℕ → Type 0)
    (starts ends slots free : List ℕ) (clock : ℕ) : Type 0 where
  pub starts_each : length starts ≡ length longs
  pub ends_each : length ends ≡ length longs
  pub slots_each : length slots ≡ length longs
  pub free_each : length free ≡ SLOT_PLACES
  pub end_is : (j : ℕ) → j < length longs → 0 < slice_index ends j →
      slice_index ends j ≡ slice_index starts j + slice_index longs j
  pub start_is : (j : ℕ) → j < length longs → 0 < slice_index ends j → slice_index starts j ≤ clock
  pub slot_is : (j : ℕ) → j < length longs → 0 < slice_index ends j → slice_index slots j < count
  pub slot_free : (j : ℕ) → j < length longs → 0 < slice_index ends j →
      slice_index ends j ≤ slice_index free (slice_index slots j)
  pub ordered : (i j : ℕ) → precedes i j → 0 < slice_index ends j →
      (0 < slice_index ends i) × (slice_index ends i ≤ slice_index starts j)
  pub apart : (i j : ℕ) → i < j → j < length longs →
      0 < slice_index ends i → 0 < slice_index ends j → slice_index slots i ≡ slice_index slots j →
      (slice_index ends i ≤ slice_index starts j) ⊎ (slice_index ends j ≤ slice_index starts i)
  pub last_on : (s : ℕ) → s < count → (slice_index free s ≡ 0)
      ⊎ ((k : ℕ) × (k < length longs) × (slice_index slots k ≡ s)
      × (slice_index ends k ≡ slice_index free s) × (slice_index starts k ≤ clock))
  pub no_slot : (s : ℕ) → count ≤ s → s < SLOT_PLACES → slice_index free s ≡ NEVER
  pub at_once : (j t : ℕ) → j < length longs → t < clock → HaveEnded precedes ends j t →
      ((0 < slice_index ends j) × (slice_index starts j ≤ t))
      ⊎ AreTakenSoFar count (length longs) starts ends slots t
  pub least_task : (j k : ℕ) → j < length longs → 0 < slice_index ends j → k < j →
      HaveEnded precedes ends k (slice_index starts j) →
      (0 < slice_index ends k) × (slice_index starts k ≤ slice_index starts j)
  pub least_slot : (j s : ℕ) → j < length longs → 0 < slice_index ends j →
      s < slice_index slots j → IsTakenByThen (length longs) starts ends slots j s

-- so many tasks are placed, and no time is past that many times the longest duration
pub record HasPlaced (tasks count : ℕ) (ends free : List ℕ) (clock step : ℕ) : Type 0 where
  pub placed : total_of (λ k. cond (slice_index ends k == 0) 0 1) tasks ≡ step
  pub ends_within : (j : ℕ) → j < tasks → slice_index ends j ≤ DURATION_LIMIT * step
  pub free_within : (s : ℕ) → s < count → slice_index free s ≤ DURATION_LIMIT * step
  pub clock_within : clock ≤ DURATION_LIMIT * step

-- the next task, and the time and the slot that it gets
pub record IsNext (count : ℕ) (longs : List ℕ) (precedes : ℕ → ℕ → Type 0)
    (starts ends slots free left : List ℕ) (clock time task slot step : ℕ) : Type 0 where
  pub later : clock ≤ time
  pub task_in : task < length longs
  pub task_open : slice_index ends task ≡ 0
  pub task_ready : slice_index left task ≡ 0
  pub slot_in : slot < count
  pub slot_free : slice_index free slot ≤ time
  pub ended : HaveEnded precedes ends task time
  pub tight : (j t : ℕ) → clock ≤ t → t < time → j < length longs → slice_index ends j ≡ 0 →
      HaveEnded precedes ends j t → AreTakenSoFar count (length longs) starts ends slots t
  pub first_task : (k : ℕ) → k < task → slice_index ends k ≡ 0 → HaveEnded precedes ends k time → ⊥
  pub first_slot : (s : ℕ) → s < slot → time < slice_index free s
  pub time_within : time ≤ DURATION_LIMIT * step

-- xs with the value v at i
pub record Puts (i v : ℕ) (xs ys : List ℕ) : Type 0 where
  pub whole : length ys ≡ length xs
  pub here : slice_index ys i ≡ v
  pub rest : (k : ℕ) → k ≢ i → slice_index ys k ≡ slice_index xs k

-- ---- the same of a state

abbrev pub RunOf : ℕ → List ℕ → Ties → State → Type 0
RunOf count longs t s =
    IsRun count longs (Ordered t) s.starts.items s.ends.items s.slots.items s.free s.clock

abbrev pub WaitingOf : ℕ → Ties → State → (ℕ → ℕ) → ℕ → Type 0
WaitingOf tasks t s time reached =
    AreWaiting tasks t.afters.items time (shut_at reached)
    (late_at t.needed.items t.waits.items s.ends.items reached)
    s.ends.items s.left.items s.ready.items s.tasks

abbrev pub GateOf : ℕ → Ties → State → Gate → Type 0
GateOf tasks t s g =
    IsGate tasks t.needed.items t.waits.items s.ends.items g.reached g.met g.time

abbrev pub HeldOf : ℕ → Ties → State → Gate → Type 0
HeldOf tasks t s g =
    IsHeld tasks t.needed.items t.waits.items s.ends.items g.reached g.met

abbrev pub PlacedOf : ℕ → List ℕ → State → ℕ → Type 0
PlacedOf count longs s step = HasPlaced (length longs) count s.ends.items s.free s.clock step

abbrev pub NextOf : ℕ → List ℕ → Ties → State → ℕ → ℕ → ℕ → ℕ → Type 0
NextOf count longs t s time task slot step =
    IsNext count longs (Ordered t) s.starts.items s.ends.items s.slots.items s.free s.left.items
    s.clock time task slot step

-- between two steps: what is placed is a run, what waits is told, and the gate can't go on
pub record IsBetween (count : ℕ) (longs : List ℕ) (t : Ties) (s : State) (step : ℕ) : Type 0 where
  pub run : RunOf count longs t s
  pub waiting : WaitingOf (length longs) t s (time_at t.befores.items s.ends.items) s.gate.reached
  pub gate : GateOf (length longs) t s s.gate
  pub held : HeldOf (length longs) t s s.gate
  pub placed : PlacedOf count longs s step

-- nothing but what tells tasks has changed
pub record KeepsPlaced (old new : State) : Type 0 where
  pub starts : new.starts ≡ old.starts
  pub ends : new.ends ≡ old.ends
  pub slots : new.slots ≡ old.slots
  pub free : new.free ≡ old.free
  pub clock : new.clock ≡ old.clock
