-- Schedules of tasks on slots. Tasks and slots are told by their places, from 0; a task has a
-- duration, a slot and a start. `precedes i j` says that task j follows task i.
use Rattle.std.specs.Prelude.{◌≡◌, ℕ, ◌+◌, ◌<◌, ◌≤◌, ◌⊎◌, List, [], ◌∷◌, length, slice_index, sum_by}

-- when task k ends
abbrev pub end_of : List ℕ → List ℕ → ℕ → ℕ
end_of longs starts k = slice_index starts k + slice_index longs k

-- a legal schedule on so many slots: each task has a start and a slot, the tasks of one slot don't
-- overlap, and no task starts before one that it follows has ended
pub record IsLegal (count : ℕ) (longs : List ℕ) (precedes : ℕ → ℕ → Type 0)
    (slots starts : List ℕ) : Type 0 where
  pub slot_each : length slots ≡ length longs
  pub start_each : length starts ≡ length longs
  pub on_slot : (k : ℕ) → k < length longs → slice_index slots k < count
  pub apart : (i j : ℕ) → i < j → j < length longs → slice_index slots i ≡ slice_index slots j →
      (end_of longs starts i ≤ slice_index starts j)
      ⊎ (end_of longs starts j ≤ slice_index starts i)
  pub ordered : (i j : ℕ) → precedes i j → end_of longs starts i ≤ slice_index starts j

-- no task ends after `end`
abbrev pub EndsBy : List ℕ → List ℕ → ℕ → Type 0
EndsBy longs starts end = (k : ℕ) → k < length longs → end_of longs starts k ≤ end

-- `end` is the last end, 0 where there is no task
pub record IsLastEnd (longs starts : List ℕ) (end : ℕ) : Type 0 where
  pub by : EndsBy longs starts end
  pub reached : ((length longs ≡ 0) × (end ≡ 0))
      ⊎ ((k : ℕ) × (k < length longs) × (end_of longs starts k ≡ end))

-- ---- the rule

-- at the time t each of the slots has a task at work
abbrev pub AreAllTaken : ℕ → List ℕ → List ℕ → List ℕ → ℕ → Type 0
AreAllTaken count longs slots starts t =
    (s : ℕ) → s < count →
    (k : ℕ) × (k < length longs) × (slice_index slots k ≡ s)
    × (slice_index starts k ≤ t) × (t < end_of longs starts k)

-- each task that task j follows has ended by the time t
abbrev pub MayStart : List ℕ → (ℕ → ℕ → Type 0) → List ℕ → ℕ → ℕ → Type 0
MayStart longs precedes starts j t = (i : ℕ) → precedes i j → end_of longs starts i ≤ t

-- as task j starts, the slot has a task at work that was placed before
abbrev pub IsTakenBefore : List ℕ → List ℕ → List ℕ → ℕ → ℕ → Type 0
IsTakenBefore longs slots starts j s =
    (k : ℕ) × (k < length longs) × (slice_index slots k ≡ s)
    × (slice_index starts j < end_of longs starts k)
    × ((slice_index starts k < slice_index starts j)
    ⊎ ((slice_index starts k ≡ slice_index starts j) × (k < j)))

-- at time 0 and at each end of a task, while a slot is free and a task may start, the least such
-- task is placed on the least free slot
pub record IsByRule (count : ℕ) (longs : List ℕ) (precedes : ℕ → ℕ → Type 0)
    (slots starts : List ℕ) : Type 0 where
  pub legal : IsLegal count longs precedes slots starts
  -- while a task waits though it may start, no slot is free
  pub at_once : (j t : ℕ) → j < length longs → t < slice_index starts j →
      MayStart longs precedes starts j t → AreAllTaken count longs slots starts t
  -- a task that may start as one of a greater number starts, has started by then
  pub least_task : (j k : ℕ) → j < length longs → k < j →
      MayStart longs precedes starts k (slice_index starts j) →
      slice_index starts k ≤ slice_index starts j
  -- no slot below a task's slot was free
  pub least_slot : (j s : ℕ) → j < length longs → s < slice_index slots j →
      IsTakenBefore longs slots starts j s

-- ---- the chain

-- task i ends before task b, or as late and has no lower number
abbrev pub EndsNoLater : List ℕ → List ℕ → ℕ → ℕ → Type 0
EndsNoLater longs starts i b =
    (end_of longs starts i < end_of longs starts b)
    ⊎ ((end_of longs starts i ≡ end_of longs starts b) × (b ≤ i))

-- task b ends last among those that task j follows; the least number at a tie
pub record IsLatestBefore (longs : List ℕ) (precedes : ℕ → ℕ → Type 0) (starts : List ℕ)
    (j b : ℕ) : Type 0 where
  pub one : precedes b j
  pub latest : (i : ℕ) → precedes i j → EndsNoLater longs starts i b

-- from the back: before each task the one that ends last among those that it follows, until a task
-- that follows none
abbrev pub GoesBack : List ℕ → (ℕ → ℕ → Type 0) → List ℕ → List ℕ → Type 0
GoesBack longs precedes starts [] = Unit {0}
GoesBack longs precedes starts (j ∷ []) = (i : ℕ) → precedes i j → ⊥
GoesBack longs precedes starts (j ∷ (b ∷ rest)) =
    IsLatestBefore longs precedes starts j b × GoesBack longs precedes starts (b ∷ rest)

-- from the back, the chain begins with the task that ends last; it is empty where there is none
abbrev pub BeginsLast : List ℕ → List ℕ → List ℕ → Type 0
BeginsLast longs starts [] = length longs ≡ 0
BeginsLast longs starts (j ∷ rest) =
    (j < length longs) × ((i : ℕ) → i < length longs → EndsNoLater longs starts i j)

-- the chain of a schedule, told from its back
pub record IsChainBack (longs : List ℕ) (precedes : ℕ → ℕ → Type 0) (starts chain : List ℕ) :
    Type 0 where
  pub last : BeginsLast longs starts chain
  pub back : GoesBack longs precedes starts chain

-- tasks each of which follows the one before
abbrev pub IsChain : (ℕ → ℕ → Type 0) → ℕ → List ℕ → Type 0
IsChain precedes tasks [] = Unit {0}
IsChain precedes tasks (x ∷ []) = x < tasks
IsChain precedes tasks (x ∷ (y ∷ rest)) =
    (x < tasks) × precedes x y × IsChain precedes tasks (y ∷ rest)

-- how long these tasks take one after the other
abbrev pub length_of : List ℕ → List ℕ → ℕ
length_of longs tasks = sum_by (λ k. slice_index longs k) tasks
