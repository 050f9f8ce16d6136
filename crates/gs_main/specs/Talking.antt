-- What a main program is between its questions: how it goes on.
use Rattle.std.specs.Prelude.{◌≡◌, ℕ, ◌≤◌, List, ◌∷◌, ◌++◌, length, Option, Some, None, Result, Ok, Err, ⊤}
use Rattle.gs_idl.specs.Interface.{Interface}
use Rattle.gs_tree.specs.Program.{Program}
use Rattle.gs_types.specs.declared.limits.TheConstants.{FILE_LIMIT}
use Rattle.gs_types.specs.declared.memory.NoMemory.{NoMemory}
use Rattle.gs_types.specs.declared.value.Value.{Value}
use Rattle.gs_types.specs.declared.value.Value.TheVariants as value
use Rattle.gs_talk.specs.declared.question.Question.{Question}
use Rattle.gs_talk.specs.declared.question.Question.TheVariants as q
use Rattle.gs_talk.specs.declared.question.Answer.{Answer}
use Rattle.gs_talk.specs.declared.question.Answer.TheVariants.{Went, Val, Bytes, Absent, TooLong}
use Rattle.gs_talk.specs.Talk.{Given, State, Dialogue, Ask, Stop, Asks, start, dialogue, after, talk}

-- ---- questions and answers

-- what a question wants: a task's value, the end of a call, a file's content, or no more than that
-- it was done
pub data Wanted : Type 0 where
  a_value : Wanted
  an_end : Wanted
  a_content : Wanted
  a_word : Wanted

-- None for a last question
abbrev pub wanted : Question → Option Wanted
wanted (q.Call op line args) = Some an_end
wanted (q.Use n place) = Some a_value
wanted (q.OpenFile name mode line) = Some a_content
wanted (q.CloseFile name bytes) = Some a_word
wanted q.Barrier = Some a_word
wanted q.End = None
wanted (q.Fault line kind) = None
wanted q.FuelOut = None

-- a number or a string
abbrev pub IsScalar : Value → Type 0
IsScalar (value.Int v) = ⊤
IsScalar (value.Str s) = ⊤
IsScalar (value.File bytes) = ⊥

-- the answer is one to such a question
abbrev pub Fits : Wanted → Answer → Type 0
Fits a_value (Val v) = IsScalar v
Fits a_value Went = ⊥
Fits a_value (Bytes bytes) = ⊥
Fits a_value Absent = ⊥
Fits a_value TooLong = ⊥
Fits an_end Went = ⊤
Fits an_end Absent = ⊤
Fits an_end TooLong = ⊤
Fits an_end (Val v) = ⊥
Fits an_end (Bytes bytes) = ⊥
Fits a_content (Bytes bytes) = length bytes ≤ FILE_LIMIT
Fits a_content Absent = ⊤
Fits a_content TooLong = ⊤
Fits a_content Went = ⊥
Fits a_content (Val v) = ⊥
Fits a_word Went = ⊤
Fits a_word (Val v) = ⊥
Fits a_word (Bytes bytes) = ⊥
Fits a_word Absent = ⊥
Fits a_word TooLong = ⊥

-- the answer is one to a question that wants this
abbrev pub FitsWanted : Option Wanted → Answer → Type 0
FitsWanted None a = ⊥
FitsWanted (Some w) a = Fits w a

-- ---- how it goes on

-- it goes on as a dialogue; or its question is unanswered, and it goes on by the answer; or it
-- found no memory
pub data Next : Type 0 where
  Goes : Dialogue → Next
  Awaits : Wanted → (Answer → Dialogue) → Next
  Failed : Next

-- a main program: what it was given, its state so far, and how it goes on
pub record Talking : Type 0 where
  pub given : Given
  pub interface : Interface
  pub state : State
  pub next : Next

abbrev pub given_by : (idl_name program_name : List ℕ) → Interface → Program → Given
given_by idl_name program_name i p = record {
  idl_name = idl_name;
  program_name = program_name;
  ops = i.ops;
  program = p;
}

-- as it begins
abbrev pub first_talking : (idl_name program_name : List ℕ) → Interface → Program → (fuel : ℕ)
    → Talking
first_talking idl_name program_name i p fuel = record {
  given = given_by idl_name program_name i p;
  interface = i;
  state = start (given_by idl_name program_name i p);
  next = Goes (dialogue (given_by idl_name program_name i p) fuel);
}

-- no question is unanswered
abbrev pub IsFree : Next → Type 0
IsFree (Goes d) = ⊤
IsFree (Awaits w next) = ⊥
IsFree Failed = ⊤

-- a question is unanswered, and this answers it
abbrev pub IsAnsweredBy : Next → Answer → Type 0
IsAnsweredBy (Goes d) a = ⊥
IsAnsweredBy (Awaits w next) a = Fits w a
IsAnsweredBy Failed a = ⊥

-- each answer that is one to the question is awaited
abbrev pub AwaitsAnswerTo : Question → Next → Type 0
AwaitsAnswerTo q next = (a : Answer) → FitsWanted (wanted q) a → IsAnsweredBy next a

-- after a last question none is unanswered
abbrev pub IsFreeAfter : Question → Next → Type 0
IsFreeAfter q next = wanted q ≡ None → IsFree next

-- what goes on as d asks this question in this state, and goes on so; after a last question it
-- stays as it is
abbrev pub Asked : Dialogue → Question → State → Next → Type 0
Asked d q s (Goes rest) = (d ≡ Stop q s) × (rest ≡ d) × (wanted q ≡ None)
Asked d q s (Awaits w next) = (d ≡ Ask q s next) × (wanted q ≡ Some w)
Asked d q s Failed = ⊥

-- what asking gives: the next question; or no memory was found, and then none is from then on
abbrev pub AsksNext : (old : Next) → Result Question NoMemory → (new : Talking) → Type 0
AsksNext (Goes d) (Ok q) new = Asked d q new.state new.next
AsksNext (Goes d) (Err e) new = new.next ≡ Failed
AsksNext (Awaits w next) result new = ⊤
AsksNext Failed (Ok q) new = ⊥
AsksNext Failed (Err e) new = new.next ≡ Failed

abbrev pub answered : Next → Answer → Next
answered (Goes d) a = Goes d
answered (Awaits w next) a = Goes (next a)
answered Failed a = Failed

-- what was given stays
pub record KeepsGiven (old new : Talking) : Type 0 where
  pub given : new.given ≡ old.given
  pub interface : new.interface ≡ old.interface

-- ---- a program after a list of answers

-- whatever is answered next, it goes on as the program does after these answers
abbrev pub StandsFor : Next → Given → (fuel : ℕ) → List Answer → Type 0
StandsFor (Goes d) t fuel answers = (more : List Answer) → talk t fuel (answers ++ more)
    ≡ after d more
StandsFor (Awaits w next) t fuel answers = (a : Answer) (more : List Answer)
    → talk t fuel (answers ++ a ∷ more) ≡ after (next a) more
StandsFor Failed t fuel answers = ⊤

-- the question is the program's next one after these answers, and the state is the program's then
abbrev pub TalksOn : Given → (fuel : ℕ) → List Answer → Question → Talking → Type 0
TalksOn t fuel answers q m = talk t fuel answers ≡ Asks q m.state
