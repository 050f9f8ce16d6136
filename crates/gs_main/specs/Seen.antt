-- Where the machine stands, as a dialogue.
use Rattle.std.specs.Prelude.{◌≡◌, ℕ, ◌-◌, ◌<◌, Bool, true, false, List, [], map, Option, Some, None, Result, Ok, Err, ⊤}
use Rattle.gs_tree.specs.declared.tree.VarKind.{VarKind}
use Rattle.gs_tree.specs.Program.{Name}
use Rattle.gs_types.specs.declared.memory.NoMemory.{NoMemory}
use Rattle.gs_check.specs.Passing.{program_in, interface_in}
use Rattle.gs_talk.specs.declared.question.Question.{Question}
use Rattle.gs_talk.specs.declared.question.Question.TheVariants as q
use Rattle.gs_talk.specs.declared.question.Answer.{Answer}
use Rattle.gs_talk.specs.declared.error.Trouble as trouble
use Rattle.gs_talk.specs.declared.error.Trouble.TheVariants as t
use Rattle.gs_talk.specs.Talk.{Given, State, Dialogue, Done, Ask, Stop, Meaning, Handed, then_do, taken, set_to, opened, went, fails, used, first_slot}
use Rattle.gs_orders.specs.declared.order.Order.{Order}
use Rattle.gs_orders.specs.Steps.{step_at}
use Rattle.gs_main.specs.declared.waits.Last.{Last}
use Rattle.gs_main.specs.Lasts.{last_question}
use Rattle.gs_main.specs.declared.waits.Waits.{Waits}
use Rattle.gs_main.specs.declared.waits.Waits.TheVariants as w
use Rattle.gs_main.specs.declared.waits.Pause.{Pause}
use Rattle.gs_main.specs.declared.waits.Pause.TheVariants as p
use Rattle.gs_main.specs.declared.work.Work.{Work}
use Rattle.gs_main.specs.declared.script.Script.{Script}
use Rattle.gs_main.specs.declared.run.Run.{Run}
use Rattle.gs_main.specs.Talking.{Wanted, a_value, an_end, a_content, a_word, wanted, Next, Goes, Awaits, Asked, given_by}
use Rattle.gs_main.specs.Machine.{goes}
use Rattle.gs_main.specs.CallAt.{CallAt, call_in}

abbrev pub given_of : Script → Given
given_of p = given_by p.idl_name p.program_name (interface_in p.checked) (program_in p.checked)

abbrev pub state_of : Work → State
state_of w = record {
  vars = w.vars.items;
  handles = w.handles.items;
  text = w.text.items;
  names = w.names.keys;
  tasks = w.tasks;
  actions = w.actions;
}

abbrev pub first_state : List (Name × VarKind) → State
first_state vars = record {
  vars = map (λ v. first_slot v.1) vars;
  handles = map (λ v. None) vars;
  text = [];
  names = [];
  tasks = 0;
  actions = 0;
}

-- ---- what a machine waits for

-- None where it waits for nothing
abbrev pub wanted_by : Waits → Option Wanted
wanted_by w.Nothing = None
wanted_by (w.Value i) = Some a_value
wanted_by w.Call = Some an_end
wanted_by (w.Content line to name mode) = Some a_content
wanted_by w.Word = Some a_word
wanted_by (w.Ended last) = None

-- it waits so for the answer to this question; one that has ended keeps its last question
abbrev pub Keeps : Waits → Question → Type 0
Keeps w.Nothing x = ⊥
Keeps (w.Value i) x = wanted x ≡ Some a_value
Keeps w.Call x = wanted x ≡ Some an_end
Keeps (w.Content line to name mode) x = wanted x ≡ Some a_content
Keeps w.Word x = wanted x ≡ Some a_word
Keeps (w.Ended last) x = x ≡ last_question last

-- for a variable's value, or for good
abbrev pub for_value : Waits → Bool
for_value w.Nothing = false
for_value (w.Value i) = true
for_value w.Call = false
for_value (w.Content line to name mode) = false
for_value w.Word = false
for_value (w.Ended last) = true

-- an order that asks or ends waits so, where it may ask for a variable's value, or call
abbrev pub allowed : (value call : Bool) → Waits → Bool
allowed value call w.Nothing = false
allowed value call (w.Value i) = value
allowed value call w.Call = call
allowed value call (w.Content line to name mode) = true
allowed value call w.Word = true
allowed value call (w.Ended last) = true

abbrev pub IsWaiting : Waits → Type 0
IsWaiting w.Nothing = ⊥
IsWaiting (w.Value i) = ⊤
IsWaiting w.Call = ⊤
IsWaiting (w.Content line to name mode) = ⊤
IsWaiting w.Word = ⊤
IsWaiting (w.Ended last) = ⊥

-- ---- what a part of an order did

-- what an evaluation asks, after which it begins again
abbrev pub asked_use : Waits → Question → State → (again : State → Dialogue) → Dialogue
asked_use w.Nothing x s again = Stop x s
asked_use (w.Value i) x s again = Ask x s (λ a. again (set_to i (taken a) s))
asked_use w.Call x s again = Stop x s
asked_use (w.Content line to name mode) x s again = Stop x s
asked_use w.Word x s again = Stop x s
asked_use (w.Ended last) x s again = Stop x s

-- an evaluation, by what goes on with its value
abbrev pub Evaluation : Type 0 → Type 0
Evaluation A = (A → State → Dialogue) → State → Dialogue

-- it has a value; or it asked for a variable's, after which it begins again; or it met a fault
abbrev pub Evaluated : {A B : Type 0} → (B → A) → Evaluation A → Work → Result B Pause → Work
    → Type 0
Evaluated {A} {B} shown e old (Ok x) new =
    ((go : A → State → Dialogue) → e go (state_of old) ≡ go (shown x) (state_of old)) × (new ≡ old)
Evaluated {A} {B} shown e old (Err (p.Asks x)) new =
    ((go : A → State → Dialogue) → e go (state_of old)
    ≡ asked_use new.waits x (state_of new) (λ u. e go u))
    × (for_value new.waits ≡ true) × Keeps new.waits x
Evaluated {A} {B} shown e old (Err p.NoMemory) new = ⊤

-- what comes of a trouble, where an evaluation begins again after a use
abbrev pub troubled : (line : ℕ) → State → (again : State → Dialogue) → trouble.Trouble → Dialogue
troubled line s again (t.Kind kind) = fails line kind s
troubled line s again (t.Need i n place) = used line i n place s (λ v u. again u)
troubled line s again t.NoMemory = Stop q.FuelOut s

abbrev pub IsOfProgram : trouble.Trouble → Type 0
IsOfProgram (t.Kind kind) = ⊤
IsOfProgram (t.Need i n place) = ⊤
IsOfProgram t.NoMemory = ⊥

-- a trouble was met: it asked for the variable's value, or the fault ends it
abbrev pub Meets : (line : ℕ) → trouble.Trouble → Work → Pause → Work → Type 0
Meets line e old (p.Asks x) new =
    ((again : State → Dialogue) → troubled line (state_of old) again e
    ≡ asked_use new.waits x (state_of new) again)
    × (for_value new.waits ≡ true) × Keeps new.waits x × IsOfProgram e
Meets line e old p.NoMemory new = e ≡ t.NoMemory

-- what is asked in the middle of a meaning m
abbrev pub paused : Meaning → (line : ℕ) → List Handed → Waits → Question → Meaning
paused m line args w.Nothing x n s = Stop x s
paused m line args (w.Value i) x n s = Ask x s (λ a. m n (set_to i (taken a) s))
paused m line args w.Call x n s = Ask x s (λ a. went a line args n s)
paused m line args (w.Content at to name mode) x n s = Ask x s (λ a. opened a at to name mode n s)
paused m line args w.Word x n s = Ask x s (λ a. Done n s)
paused m line args (w.Ended last) x n s = Stop x s

-- an order of this meaning was done; or it asked
abbrev pub Does : (value call : Bool) → Meaning → (line : ℕ) → List Handed → Work
    → Result (Unit {0}) Pause → Work → Type 0
Does value call m line args old (Ok u) new = ((n : ℕ) → m n (state_of old) ≡ Done n (state_of new))
    × (new.waits ≡ old.waits)
Does value call m line args old (Err (p.Asks x)) new =
    ((n : ℕ) → m n (state_of old) ≡ paused m line args new.waits x n (state_of new))
    × (allowed value call new.waits ≡ true) × Keeps new.waits x
Does value call m line args old (Err p.NoMemory) new = ⊤

-- the program is left; or a variable's value is asked for
abbrev pub Leaves : (go : State → Dialogue) → Work → Pause → Work → Type 0
Leaves go old (p.Asks x) new = (go (state_of old) ≡ asked_use new.waits x (state_of new) go)
    × (for_value new.waits ≡ true) × Keeps new.waits x
Leaves go old p.NoMemory new = ⊤

-- ---- where it stands

-- whether a step was taken, and where the machine stands then
abbrev pub steps_after : Waits → ℕ → ℕ
steps_after w.Nothing n = n - 1
steps_after (w.Value i) n = n
steps_after w.Call n = n - 1
steps_after (w.Content line to name mode) n = n - 1
steps_after w.Word n = n - 1
steps_after (w.Ended last) n = n

abbrev pub stands_at : Waits → (here next : ℕ) → ℕ
stands_at w.Nothing here next = next
stands_at (w.Value i) here next = here
stands_at w.Call here next = here
stands_at (w.Content line to name mode) here next = next
stands_at w.Word here next = next
stands_at (w.Ended last) here next = here

-- the call is ended
abbrev pub called : Given → List Order → Option CallAt → ℕ → State → Answer → Dialogue
called t orders (Some x) n s a = then_do (went a x.line x.args n s) (goes t orders x.next)
called t orders None n s a = Stop q.FuelOut s

-- how it goes on by the answer
abbrev pub resumed : Given → List Order → Waits → (at steps : ℕ) → State → Answer → Dialogue
resumed t orders w.Nothing at n s a = goes t orders at n s
resumed t orders (w.Value i) at n s a = goes t orders at n (set_to i (taken a) s)
resumed t orders w.Call at n s a = called t orders (call_in (step_at orders at)) n s a
resumed t orders (w.Content line to name mode) at n s a = then_do (opened a line to name mode n s)
    (goes t orders at)
resumed t orders w.Word at n s a = goes t orders at n s
resumed t orders (w.Ended last) at n s a = Stop (last_question last) s

abbrev pub next_by : Given → List Order → Waits → (at steps : ℕ) → State → Next
next_by t orders w.Nothing at n s = Goes (goes t orders at n s)
next_by t orders (w.Value i) at n s = Awaits a_value (resumed t orders (w.Value i) at n s)
next_by t orders w.Call at n s = Awaits an_end (resumed t orders w.Call at n s)
next_by t orders (w.Content line to name mode) at n s =
    Awaits a_content (resumed t orders (w.Content line to name mode) at n s)
next_by t orders w.Word at n s = Awaits a_word (resumed t orders w.Word at n s)
next_by t orders (w.Ended last) at n s = Goes (Stop (last_question last) s)

abbrev pub next_of : Given → List Order → Run → Next
next_of t orders r = next_by t orders r.work.waits r.at r.steps (state_of r.work)

abbrev pub going : Given → List Order → Run → Dialogue
going t orders r = goes t orders r.at r.steps (state_of r.work)

-- it went on with fewer steps left; or it asks what comes next
abbrev pub Moved : Given → List Order → Run → Result (Unit {0}) Pause → Run → Type 0
Moved t orders old (Ok u) new = (going t orders old ≡ going t orders new)
    × (new.work.waits ≡ w.Nothing) × (new.steps < old.steps)
Moved t orders old (Err (p.Asks x)) new =
    Asked (going t orders old) x (state_of new.work) (next_of t orders new)
Moved t orders old (Err p.NoMemory) new = ⊤

-- a dialogue after an answer: it goes on at `next`, or it has ended
abbrev pub WentOn : (next : ℕ) → Run → Dialogue → Type 0
WentOn next new (Done n s) = (new.work.waits ≡ w.Nothing) × (new.at ≡ next) × (new.steps ≡ n)
    × (state_of new.work ≡ s)
WentOn next new (Stop x s) = (last : Last) × (new.work.waits ≡ w.Ended last)
    × (x ≡ last_question last) × (state_of new.work ≡ s)
WentOn next new (Ask x s go) = ⊥

-- what waited so goes on by an answer
abbrev pub Replies : Given → List Order → Waits → (old : Run) → Answer → (new : Run) → Type 0
Replies t orders wait old a new = next_of t orders new
    ≡ Goes (resumed t orders wait old.at old.steps (state_of old.work) a)

-- what the machine asks next; want of memory says nothing
abbrev pub AsksOn : Given → List Order → Run → Result Question NoMemory → Run → Type 0
AsksOn t orders old (Ok x) new =
    Asked (going t orders old) x (state_of new.work) (next_of t orders new)
AsksOn t orders old (Err e) new = ⊤
