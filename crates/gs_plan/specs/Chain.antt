-- Walking back from the task that ends last.
use Rattle.std.specs.Prelude.{◌≡◌, ℕ, ◌<◌, ◌≤◌, ◌⊎◌, List, [], ◌∷◌, length, slice_index, slice_index_or, Option, Some, None}
use Rattle.gs_plan.specs.Ties.{HasPair, Ordered}
use Rattle.gs_plan.specs.declared.ties.Ties.{Ties}

-- task i ends before task b, or as late and has no lower number
abbrev pub IsNoLater : List ℕ → ℕ → ℕ → Type 0
IsNoLater ends i b = (slice_index ends i < slice_index ends b)
    ⊎ ((slice_index ends i ≡ slice_index ends b) × (b ≤ i))

-- the candidate that ends last, the least number at a tie; none where there is no candidate
abbrev pub IsLatest : (ℕ → Type 0) → List ℕ → Option ℕ → Type 0
IsLatest candidates ends None = (i : ℕ) → candidates i → ⊥
IsLatest candidates ends (Some b) = candidates b × ((i : ℕ) → candidates i → IsNoLater ends i b)

-- the later of the two
abbrev pub IsLater : List ℕ → Option ℕ → ℕ → ℕ → Type 0
IsLater ends None task result = result ≡ task
IsLater ends (Some b) task result =
    ((result ≡ b) ⊎ (result ≡ task)) × IsNoLater ends b result × IsNoLater ends task result

abbrev pub best_at : List (Option ℕ) → ℕ → Option ℕ
best_at best j = slice_index_or best j None

-- for each task the latest of those that the first pairs say it depends on
abbrev pub AreLatestPairs : Ties → ℕ → List ℕ → List (Option ℕ) → Type 0
AreLatestPairs t upto ends best =
    (j : ℕ) → j < length best → IsLatest (λ i. HasPair t upto i j) ends (best_at best j)

-- for each of the first tasks the latest of those that it follows; for the others as before
pub record AreLatestUpto (t : Ties) (upto : ℕ) (ends : List ℕ) (best : List (Option ℕ)) :
    Type 0 where
  pub done : (j : ℕ) → j < upto → j < length best →
      IsLatest (λ i. Ordered t i j) ends (best_at best j)
  pub rest : (j : ℕ) → upto ≤ j → j < length best →
      IsLatest (λ i. HasPair t (length t.befores.items) i j) ends (best_at best j)

-- a walk along the best: from a task to its best, until there is none
abbrev pub IsWalk : List (Option ℕ) → Option ℕ → List ℕ → Type 0
IsWalk best None [] = Unit {0}
IsWalk best None (k ∷ rest) = ⊥
IsWalk best (Some j) [] = ⊥
IsWalk best (Some j) (k ∷ rest) = (k ≡ j) × IsWalk best (best_at best j) rest

-- each best is an earlier task
abbrev pub Falls : List (Option ℕ) → Type 0
Falls best = (j b : ℕ) → j < length best → best_at best j ≡ Some b → b < j
