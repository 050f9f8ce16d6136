-- Dialogues: states, actions, and the value of an expression, which may ask.
use Rattle.std.specs.Prelude.{ℕ, zero, suc, ◌+◌, ℤ, pos, ◌-ℤ◌, nat_lt, Bool, true, false, map, set, slice_get, List, [], ◌∷◌, Option, Some, None, Result, Ok, Err, if◌then◌else◌}
use Rattle.gs_idl.specs.Interface.{Signature}
use Rattle.gs_tree.specs.declared.tree.Mode.{Mode}
use Rattle.gs_tree.specs.Program.{Program}
use Rattle.gs_types.specs.declared.limits.TheConstants.{ACTION_LIMIT}
use Rattle.gs_types.specs.declared.value.Value.{Value}
use Rattle.gs_types.specs.declared.value.Value.TheVariants.{Int, Str}
use Rattle.gs_types.specs.declared.settings.FaultKind.{FaultKind}
use Rattle.gs_types.specs.declared.settings.FaultKind.TheVariants.{TooManyActions}
use Rattle.gs_talk.specs.declared.slot.Slot.{Slot}
use Rattle.gs_talk.specs.declared.slot.Slot.TheVariants.{Held, Due}
use Rattle.gs_talk.specs.declared.question.Question.{Question}
use Rattle.gs_talk.specs.declared.question.Question.TheVariants.{Use, Fault, FuelOut}
use Rattle.gs_talk.specs.declared.question.Answer.{Answer}
use Rattle.gs_talk.specs.declared.question.Answer.TheVariants.{Went, Val, Bytes, Absent, TooLong}
use Rattle.gs_talk.specs.Terms.{Placed, number, text, at, converted, compared, negated, inverted, both}
use Rattle.gs_talk.specs.Values.{is_zero, fit, truth, apply, decided, atoi_of, order_of, int_of, text_of}

-- ---- what is given

-- two names, and what the texts under them say
pub record Given : Type 0 where
  pub idl_name : List ℕ
  pub program_name : List ℕ
  pub ops : List Signature
  pub program : Program

-- the names of the variables, in the order of their declaration
abbrev pub names_of : Given → List (List ℕ)
names_of t = map (λ v. v.0.text) t.program.vars

-- ---- the state

-- an open file: its content, and how far it was read
pub record Opened : Type 0 where
  pub name : List ℕ
  pub mode : Mode
  pub content : List ℕ
  pub at : ℕ

-- the variables and handles by their places, the text, the distinct names of files so far, and how
-- many tasks were called and actions asked
pub record State : Type 0 where
  pub vars : List Slot
  pub handles : List (Option Opened)
  pub text : List ℕ
  pub names : List (List ℕ)
  pub tasks : ℕ
  pub actions : ℕ

-- A dialogue asks, and goes on by the answer; or it stops at a last question; or it is done, with
-- so many steps left.
pub data Dialogue : Type 0 where
  Done : (steps : ℕ) (s : State) → Dialogue
  Ask : (q : Question) (s : State) (next : Answer → Dialogue) → Dialogue
  Stop : (q : Question) (s : State) → Dialogue

abbrev pub Meaning : Type 0
Meaning = ℕ → State → Dialogue

abbrev pub then_do : Dialogue → Meaning → Dialogue
then_do (Done n s) go = go n s
then_do (Ask q s next) go = Ask q s (λ a. then_do (next a) go)
then_do (Stop q s) go = Stop q s

abbrev pub fails : (line : ℕ) → FaultKind → State → Dialogue
fails line kind s = Stop (Fault line kind) s

-- the fault, where there is one
abbrev pub unless : Option FaultKind → (line : ℕ) → State → Dialogue → Dialogue
unless None line s go = go
unless (Some kind) line s go = fails line kind s

abbrev pub fault_if : Bool → FaultKind → Option FaultKind
fault_if true kind = Some kind
fault_if false kind = None

-- where a step is due
abbrev pub step : Meaning → Meaning
step go zero s = Stop FuelOut s
step go (suc n) s = go n s

-- ---- actions

abbrev pub counted : State → State
counted s = record s { actions = s.actions + 1 }

-- where an action is due: it is counted as it is asked
abbrev pub action : (line : ℕ) → State → (State → Dialogue) → Dialogue
action line s go = if nat_lt s.actions ACTION_LIMIT then go (counted s)
    else fails line TooManyActions s

-- the value of an answer; 0 for an answer of another kind
abbrev pub taken : Answer → Value
taken (Val v) = v
taken Went = Int (pos 0)
taken (Bytes bytes) = Int (pos 0)
taken Absent = Int (pos 0)
taken TooLong = Int (pos 0)

abbrev pub set_to : (i : ℕ) → Value → State → State
set_to i v s = record s { vars = set s.vars i (Held v) }

-- the first use of variable i, which waits for task n's value at a place: it holds the answer from
-- then on
abbrev pub used : (line i n place : ℕ) → State → (Value → State → Dialogue) → Dialogue
used line i n place s go = action line s
    (λ u. Ask (Use n place) u (λ a. go (taken a) (set_to i (taken a) u)))

-- ---- expressions

abbrev pub looked : (line i : ℕ) → Option Slot → State → (Value → State → Dialogue) → Dialogue
looked line i None s go = go (Int (pos 0)) s
looked line i (Some (Held v)) s go = go v s
looked line i (Some (Due n place)) s go = used line i n place s go

abbrev pub fitted : (line : ℕ) → Result ℤ FaultKind → State → (Value → State → Dialogue) → Dialogue
fitted line (Ok v) s go = go (Int v) s
fitted line (Err kind) s go = fails line kind s

-- where the left side decides, the right side is left out
abbrev pub or_else : Option ℤ → (ℤ → Dialogue) → Dialogue → Dialogue
or_else (Some v) go more = go v
or_else None go more = more

-- the value, from the left; a variable that waits is asked for
abbrev pub valued : (line : ℕ) → Placed → State → (Value → State → Dialogue) → Dialogue
valued line (number v) s go = go (Int v) s
valued line (text b) s go = go (Str b) s
valued line (at i) s go = looked line i (slice_get s.vars i) s go
valued line (converted a) s go = valued line a s (λ x u. fitted line (atoi_of (text_of x)) u go)
valued line (compared a b) s go = valued line a s
    (λ x u. valued line b u (λ y w. go (Int (order_of (text_of x) (text_of y))) w))
valued line (negated a) s go = valued line a s (λ x u. fitted line (fit (pos 0 -ℤ int_of x)) u go)
valued line (inverted a) s go = valued line a s (λ x u. go (Int (truth (is_zero (int_of x)))) u)
valued line (both op a b) s go =
    valued line a s (λ x u. or_else (decided op (int_of x)) (λ v. go (Int v) u)
    (valued line b u (λ y w. fitted line (apply op (int_of x) (int_of y)) w go)))

-- the values of several expressions, in order
abbrev pub all_valued : (line : ℕ) → List Placed → State → (List Value → State → Dialogue)
    → Dialogue
all_valued line [] s go = go [] s
all_valued line (t ∷ ts) s go = valued line t s
    (λ v u. all_valued line ts u (λ vs w. go (v ∷ vs) w))
