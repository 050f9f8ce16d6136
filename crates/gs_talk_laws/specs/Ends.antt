-- Each run ends or is stuck.
use Rattle.std.specs.Prelude.{◌≡◌, ℕ, ◌≤◌, ◌⊎◌}
use Rattle.gs_types.specs.declared.limits.TheConstants.{ACTION_LIMIT}
use Rattle.gs_talk.specs.declared.question.Question.{Question}
use Rattle.gs_talk.specs.Seq.{Run, seq, EndsIn, IsStuck}

-- after k answers the run ends in some question, or can go no further
abbrev pub HasEnded : Run → (k : ℕ) → Type 0
HasEnded r k = ((q : Question) × EndsIn r k q) ⊎ IsStuck r k

-- each run has ended after as many answers as there may be actions
abbrev pub EachRunEnds : Type 0
EachRunEnds = (r : Run) → HasEnded r ACTION_LIMIT

-- a run that has ended stays
abbrev pub EndsStay : Type 0
EndsStay = (r : Run) (k more : ℕ) → k ≤ more → HasEnded r k → seq r more ≡ seq r k
