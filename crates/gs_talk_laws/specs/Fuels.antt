-- Two fuels: more fuel asks the same.
use Rattle.std.specs.Prelude.{◌≡◌, ◌≢◌, ℕ, zero, suc, ◌≤◌, List, [], ◌∷◌, ◌++◌, Option, Some, None, ◌⊎◌}
use Rattle.gs_talk.specs.declared.question.Question.{Question}
use Rattle.gs_talk.specs.declared.question.Question.TheVariants.{FuelOut}
use Rattle.gs_talk.specs.declared.question.Answer.{Answer}
use Rattle.gs_talk.specs.Talk.{Given, State, Dialogue, Done, Ask, Stop, Asks, after, talk, dialogue}
use Rattle.gs_talk.specs.Seq.{Run, World, Standing, Task, seq, reply, EndsIn, IsTask}
use Rattle.gs_talk_laws.specs.Numbers.{at_number}

abbrev pub IsPrefixOf : {A : Type 0} → List A → List A → Type 0
IsPrefixOf {A} xs ys = (rest : List A) × (xs ++ rest ≡ ys)

-- ---- dialogues

-- the first asks what the second asks, but where it has no step left
abbrev pub Cut : Dialogue → Dialogue → Type 0
Cut (Done n s) e = (m : ℕ) × (e ≡ Done m s)
Cut (Ask q s next) e = (more : Answer → Dialogue) × (e ≡ Ask q s more)
    × ((a : Answer) → Cut (next a) (more a))
Cut (Stop q s) e = (q ≡ FuelOut) ⊎ (e ≡ Stop q s)

-- of two fuels the smaller asks what the greater asks, but where it has no step left
abbrev pub SmallerIsCut : Type 0
SmallerIsCut = (t : Given) (fuel more : ℕ) → fuel ≤ more → Cut (dialogue t fuel) (dialogue t more)

-- what is asked after some answers is asked at every greater fuel, with the same state, but for the
-- fuel's end
abbrev pub MoreFuel : Type 0
MoreFuel = (t : Given) (fuel more : ℕ) (answers : List Answer) (q : Question) (s : State)
    → fuel ≤ more → q ≢ FuelOut →
    talk t fuel answers ≡ Asks q s → talk t more answers ≡ Asks q s

-- ---- runs

abbrev pub with_fuel : Run → ℕ → Run
with_fuel r fuel = record r { fuel = fuel }

abbrev pub answered_by : Question → Option Answer → List (Question × Answer)
answered_by q None = []
answered_by q (Some a) = (q, a) ∷ []

-- the next question with its answer; none where the run has ended or is stuck
abbrev pub exchange : Run → World → Dialogue → List (Question × Answer)
exchange r w (Done n s) = []
exchange r w (Ask q s next) = answered_by q (reply r.texts.ops w q)
exchange r w (Stop q s) = []

-- the first k questions that are answered, each with its answer
unfoldable pub exchanges : Run → (k : ℕ) → List (Question × Answer)
exchanges r zero = []
exchanges r (suc k) = exchanges r k ++ exchange r (seq r k).world (seq r k).rest

-- the questions at the smaller fuel begin those at the greater, with the same answers
abbrev pub FuelPrefix : Type 0
FuelPrefix = (r : Run) (fuel more k : ℕ) → fuel ≤ more
    → IsPrefixOf (exchanges (with_fuel r fuel) k) (exchanges (with_fuel r more) k)

-- no step is left
pub record HasRunOut (at : Standing) : Type 0 where
  pub state : State
  pub out : at.rest ≡ Stop FuelOut state

-- two runs stand alike: in one world, with one question that comes next, and one state
pub record Alike (at other : Standing) : Type 0 where
  pub world : at.world ≡ other.world
  pub next : after at.rest [] ≡ after other.rest []

-- after as many questions both fuels stand alike, as long as the smaller has not run out
abbrev pub SameStandings : Type 0
SameStandings = (r : Run) (fuel more k : ℕ) → fuel ≤ more
    → Alike (seq (with_fuel r fuel) k) (seq (with_fuel r more) k)
    ⊎ HasRunOut (seq (with_fuel r fuel) k)

-- ---- tasks and contents

-- a task at some fuel is one at every greater fuel
abbrev pub TasksGoOn : Type 0
TasksGoOn = (r : Run) (fuel more n : ℕ) (t : Task) → fuel ≤ more → IsTask (with_fuel r fuel) n t
    → IsTask (with_fuel r more) n t

-- a task that two fuels have is the same
abbrev pub SameTasks : Type 0
SameTasks = (r : Run) (fuel more n : ℕ) (t u : Task) → IsTask (with_fuel r fuel) n t
    → IsTask (with_fuel r more) n u → t ≡ u

-- the n-th content that the program closes, from 1, at some moment
pub record IsClosed (r : Run) (n : ℕ) (bytes : List ℕ) : Type 0 where
  pub moment : ℕ
  pub is : at_number (seq r moment).world.closed n ≡ Some bytes

-- a content that is closed at two fuels is the same
abbrev pub SameClosed : Type 0
SameClosed = (r : Run) (fuel more n : ℕ) (b c : List ℕ) → IsClosed (with_fuel r fuel) n b
    → IsClosed (with_fuel r more) n c → b ≡ c

-- ---- ends

-- an end other than by fuel comes at every greater fuel, with the same world and state
abbrev pub SameEnd : Type 0
SameEnd = (r : Run) (fuel more k : ℕ) (q : Question) → fuel ≤ more → q ≢ FuelOut →
    EndsIn (with_fuel r fuel) k q → EndsIn (with_fuel r more) k q
    × (seq (with_fuel r more) k ≡ seq (with_fuel r fuel) k)

-- two fuels that both end, and not by fuel, end alike
abbrev pub OneEnd : Type 0
OneEnd = (r : Run) (fuel more k j : ℕ) (q p : Question) → q ≢ FuelOut → p ≢ FuelOut →
    EndsIn (with_fuel r fuel) k q → EndsIn (with_fuel r more) j p → seq (with_fuel r fuel) k
    ≡ seq (with_fuel r more) j
