-- The frontier by the needs of actions.
use Rattle.std.specs.Prelude.{◌≡◌, ℕ, suc, ◌≤◌, [], ◌∷◌}
use Rattle.std.specs.Bool.{⊤}
use Rattle.gs_types.specs.History.{History}
use Rattle.gs_talk.specs.declared.question.Question.{Question}
use Rattle.gs_talk.specs.declared.question.Question.TheVariants.{Call, Use, OpenFile, CloseFile, Barrier, End, Fault, FuelOut}
use Rattle.gs_talk.specs.declared.question.Answer.{Answer}
use Rattle.gs_talk.specs.Talk.{State, Dialogue, Ask}
use Rattle.gs_talk.specs.Actions.{Act, act_of, acts, Needs}
use Rattle.gs_history.specs.Setup.{Setup, world_at, rest_at, count_at}
use Rattle.gs_history.specs.Frontier.{IsDone, unfinished, MayAnswer}

abbrev pub IsCall : Question → Type 0
IsCall (Call op line args) = ⊤
IsCall (Use n place) = ⊥
IsCall (OpenFile name mode line) = ⊥
IsCall (CloseFile name bytes) = ⊥
IsCall Barrier = ⊥
IsCall End = ⊥
IsCall (Fault line kind) = ⊥
IsCall FuelOut = ⊥

-- the tasks that the question's action needs are done, and with a call's task at most as many are
-- unfinished as the window has room for
pub record HasNeeds (s : Setup) (h : History) (k : ℕ) (q : Question) : Type 0 where
  pub tasks : (a : Act) (n : ℕ) → act_of s.run (world_at s k) q ≡ a ∷ []
      → Needs (acts s.run k) a n → IsDone h n
  pub room : IsCall q → unfinished h (suc (count_at s k)) ≤ s.window

-- what the program asks may be answered exactly where its needs are met
pub record AnswersByNeeds (s : Setup) (h : History) (k : ℕ) (q : Question) : Type 0 where
  pub met : MayAnswer s h k q → HasNeeds s h k q
  pub may : HasNeeds s h k q → MayAnswer s h k q

abbrev pub FrontierIsOfNeeds : Type 0
FrontierIsOfNeeds = (s : Setup) (h : History) (k : ℕ) (q : Question) (st : State)
    (next : Answer → Dialogue) → rest_at s k ≡ Ask q st next → AnswersByNeeds s h k q
