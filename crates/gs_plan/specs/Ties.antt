-- Which task follows which, as the lists of `Ties` say it.
use Rattle.std.specs.Prelude.{◌≡◌, ℕ, ◌+◌, ◌<◌, ◌≤◌, ◌⊎◌, List, length, slice_index, slice_index_or, Option, Some, None}
use Rattle.gs_plan.specs.declared.ties.Ties.{Ties}

abbrev pub before_at : Ties → ℕ → ℕ
before_at t e = slice_index t.befores.items e

abbrev pub after_at : Ties → ℕ → ℕ
after_at t e = slice_index t.afters.items e

abbrev pub needed_at : Ties → ℕ → ℕ
needed_at t x = slice_index t.needed.items x

abbrev pub waits_at : Ties → ℕ → ℕ
waits_at t j = slice_index t.waits.items j

-- one of the first pairs says that task j depends on task i
abbrev pub HasPair : Ties → ℕ → ℕ → ℕ → Type 0
HasPair t upto i j = (e : ℕ) × (e < upto) × (before_at t e ≡ i) × (after_at t e ≡ j)

-- one of the first needs is task i
abbrev pub HasNeed : Ties → ℕ → ℕ → Type 0
HasNeed t upto i = (x : ℕ) × (x < upto) × (needed_at t x ≡ i)

-- task j follows task i
abbrev pub Ordered : Ties → ℕ → ℕ → Type 0
Ordered t i j = HasPair t (length t.befores.items) i j ⊎ HasNeed t (waits_at t j) i

-- lists for so many tasks: a task follows only earlier ones
pub record AreTies (t : Ties) (tasks : ℕ) : Type 0 where
  pub same : length t.befores.items ≡ length t.afters.items
  pub pairs : (e : ℕ) → e < length t.befores.items →
      (before_at t e < after_at t e) × (after_at t e < tasks)
  pub each : length t.waits.items ≡ tasks
  pub within : (j : ℕ) → j < tasks → waits_at t j ≤ length t.needed.items
  pub rising : (i j : ℕ) → i ≤ j → j < tasks → waits_at t i ≤ waits_at t j
  pub earlier : (j x : ℕ) → j < tasks → x < waits_at t j → needed_at t x < j

-- ---- the pairs of each task

-- one more than a pair's place, or 0
abbrev pub past : Option ℕ → ℕ
past None = 0
past (Some e) = e + 1

abbrev pub link_at : List (Option ℕ) → ℕ → ℕ
link_at links i = past (slice_index_or links i None)

-- the first pairs of each task as `before`, linked from the last to the first
pub record IsIndex (befores : List ℕ) (tasks upto : ℕ) (heads links : List (Option ℕ)) :
    Type 0 where
  pub heads_each : length heads ≡ tasks
  pub links_each : length links ≡ length befores
  pub reached : (e : ℕ) → e < upto → e < link_at heads (slice_index befores e)
  pub next : (e f : ℕ) → e < f → f < upto → slice_index befores e ≡ slice_index befores f →
      e < link_at links f
  pub head_is : (i : ℕ) → i < tasks → (link_at heads i ≡ 0)
      ⊎ ((e : ℕ) × (link_at heads i ≡ e + 1) × (e < upto) × (slice_index befores e ≡ i))
  pub link_is : (f : ℕ) → f < upto → (link_at links f ≡ 0)
      ⊎ ((e : ℕ) × (link_at links f ≡ e + 1) × (e < f)
      × (slice_index befores e ≡ slice_index befores f))
