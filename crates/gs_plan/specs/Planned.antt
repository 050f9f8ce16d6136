-- A plan: a table of the tasks, its last end, its work, and its chain.
use Rattle.std.specs.Prelude.{◌≡◌, ℕ, suc, ◌+◌, ◌*◌, ◌≤◌, List, length, map, reverse, sum, slice_get, slice_index, Some}
use Rattle.gs_types.specs.declared.action.Action.{Action}
use Rattle.gs_plan.specs.Actions.{precedes, longs_of}
use Rattle.gs_plan.specs.Schedule.{IsLegal, EndsBy, IsLastEnd, IsByRule, IsChainBack, IsChain, length_of}
use Rattle.gs_plan.specs.declared.table.Placed.{Placed}
use Rattle.gs_plan.specs.declared.table.Plan.{Plan}

-- the slots and the starts of the tasks
abbrev pub slots_of : List Placed → List ℕ
slots_of tasks = map (λ t. t.slot) tasks

abbrev pub starts_of : List Placed → List ℕ
starts_of tasks = map (λ t. t.start) tasks

-- the rows have the tasks' numbers, from 1, and these ends
abbrev pub HaveRows : List Placed → List ℕ → Type 0
HaveRows tasks ends = (k : ℕ) (t : Placed) → slice_get tasks k ≡ Some t →
    (t.n ≡ suc k) × (t.end ≡ slice_index ends k)

-- a row has the task's number, from 1, and its end
abbrev pub AreRows : List ℕ → List Placed → Type 0
AreRows longs tasks = (k : ℕ) (t : Placed) → slice_get tasks k ≡ Some t →
    (t.n ≡ suc k) × (t.end ≡ t.start + slice_index longs k)

-- the plan by the rule for tasks that take so long
pub record IsPlan (count : ℕ) (longs : List ℕ) (precedes : ℕ → ℕ → Type 0) (p : Plan) :
    Type 0 where
  pub rows : AreRows longs p.tasks
  pub rule : IsByRule count longs precedes (slots_of p.tasks) (starts_of p.tasks)
  pub end : IsLastEnd longs (starts_of p.tasks) p.end
  pub work : p.work ≡ sum longs
  -- the chain from its back, by places; the plan has the numbers from its front
  pub back : List ℕ
  pub is_back : IsChainBack longs precedes (starts_of p.tasks) back
  pub chain : p.chain ≡ map suc (reverse back)
  pub is_chain : IsChain precedes (length longs) (reverse back)
  pub length_is : p.length ≡ length_of longs back

-- the plan of a finished run
abbrev pub IsPlanOf : ℕ → List ℕ → List Action → Plan → Type 0
IsPlanOf count durations actions p = IsPlan count (longs_of durations actions) (precedes actions) p

-- no legal schedule ends earlier than the chain and the work allow
abbrev pub IsLeastEnd : ℕ → List ℕ → List Action → Plan → Type 0
IsLeastEnd count durations actions p =
    (slots starts : List ℕ) (end : ℕ) →
    IsLegal count (longs_of durations actions) (precedes actions) slots starts →
    EndsBy (longs_of durations actions) starts end → (p.length ≤ end) × (p.work ≤ count * end)
