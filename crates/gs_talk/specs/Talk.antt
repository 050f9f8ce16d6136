-- What a main program asks.
use Rattle.std.specs.Prelude.{ℕ, zero, suc, ◌+◌, pos, nat_lt, nat_le, Bool, true, false, not, ◌&&◌, ◌||◌, map, set, slice_get, List, [], ◌∷◌, ◌++◌, length, count_by, Option, Some, None, is_some, Result, Ok, Err, if◌then◌else◌}
use Rattle.std.specs.Option.{option_or}
use Rattle.std.specs.List.{list_any}
use Rattle.std.specs.Str.{bytes_eq}
use Rattle.gs_idl.specs.Interface.{Param, op_place, params_at, is_out_scalar, writes_file}
use Rattle.gs_idl.specs.declared.idl.ParamKind.{ParamKind}
use Rattle.gs_idl.specs.declared.idl.ParamKind.TheVariants as kind
use Rattle.gs_tree.specs.declared.tree.Mode.{Mode}
use Rattle.gs_tree.specs.declared.tree.Mode.TheVariants.{R, W, A}
use Rattle.gs_tree.specs.declared.tree.VarKind.{VarKind}
use Rattle.gs_tree.specs.declared.tree.VarKind.TheVariants as var_kind
use Rattle.gs_tree.specs.Program.{Term, num, var, Setting, Passed, Code, empty, block, set as assign, choose, while, for, open_file, read_line, close_file, barrier, print, print_file, print_str, call, Codes, none, one, MaybeCodes, without, otherwise}
use Rattle.gs_types.specs.NameTest.{is_name}
use Rattle.gs_types.specs.declared.limits.TheConstants.{FILE_LIMIT, STRING_LIMIT, PRINTED_LIMIT, TASK_LIMIT, NAME_LIMIT, HANDLE_LIMIT}
use Rattle.gs_types.specs.declared.value.Value.{Value}
use Rattle.gs_types.specs.declared.value.Value.TheVariants.{Int, Str}
use Rattle.gs_types.specs.declared.settings.FaultKind.{FaultKind}
use Rattle.gs_types.specs.declared.settings.FaultKind.TheVariants.{StringTooLong, TextTooLong, FileTooLong, BadName, NoFile, OwnText, SameOut, FileOpen, HandleOpen, HandleClosed, WrongMode, TooManyOpen, TooManyTasks, TooManyNames, StillOpen}
use Rattle.gs_talk.specs.declared.slot.Slot.{Slot}
use Rattle.gs_talk.specs.declared.slot.Slot.TheVariants.{Held, Due}
use Rattle.gs_talk.specs.declared.question.CallArg.{CallArg}
use Rattle.gs_talk.specs.declared.question.CallArg.TheVariants as arg
use Rattle.gs_talk.specs.declared.question.Question.{Question}
use Rattle.gs_talk.specs.declared.question.Question.TheVariants.{Call, OpenFile, CloseFile, Barrier, End, FuelOut}
use Rattle.gs_talk.specs.declared.question.Answer.{Answer}
use Rattle.gs_talk.specs.declared.question.Answer.TheVariants.{Went, Val, Bytes, Absent, TooLong}
use Rattle.gs_talk.specs.Terms.{Placed, place_of, placed, all_placed}
use Rattle.gs_talk.specs.Values.{is_zero, int_of, text_of}
use Rattle.gs_talk.specs.Texts.{formatted, Taken, no_more, got, read_line_at}
pub use Rattle.gs_talk.specs.Dialogues.{Given, names_of, Opened, State, Dialogue, Done, Ask, Stop, Meaning, then_do, fails, unless, fault_if, step, counted, action, taken, set_to, used, looked, fitted, or_else, valued, all_valued}

-- ---- assignments and prints

abbrev pub do_set : (line to : ℕ) → Placed → Meaning
do_set line to value = step (λ n s. valued line value s (λ v u. Done n (set_to to v u)))

abbrev pub with_text : List ℕ → State → State
with_text out s = record s { text = out }

-- the text grows within its limit
abbrev pub printing : (line : ℕ) → List ℕ → Meaning
printing line out n s = if nat_le (length (s.text ++ out)) PRINTED_LIMIT
    then Done n (with_text (s.text ++ out) s) else fails line TextTooLong s

abbrev pub do_print : (line : ℕ) → (format : List ℕ) → List Placed → Meaning
do_print line format args = step
    (λ n s. all_valued line args s (λ vs u. printing line (formatted format vs) n u))

-- a string variable is set within the limit of a string
abbrev pub printing_str : (line to : ℕ) → List ℕ → Meaning
printing_str line to out n s = if nat_le (length out) STRING_LIMIT
    then Done n (set_to to (Str out) s) else fails line StringTooLong s

abbrev pub do_print_str : (line to : ℕ) → (format : List ℕ) → List Placed → Meaning
do_print_str line to format args = step
    (λ n s. all_valued line args s (λ vs u. printing_str line to (formatted format vs) n u))

-- ---- files

abbrev pub opened_by : Option (Option Opened) → Option Opened
opened_by None = None
opened_by (Some h) = h

-- what is open at a handle
abbrev pub opened_at : State → ℕ → Option Opened
opened_at s i = opened_by (slice_get s.handles i)

abbrev pub with_handle : (i : ℕ) → Option Opened → State → State
with_handle i h s = record s { handles = set s.handles i h }

abbrev pub writes : Mode → Bool
writes R = false
writes W = true
writes A = true

abbrev pub is_own_text : Given → List ℕ → Bool
is_own_text t name = bytes_eq name t.idl_name || bytes_eq name t.program_name

abbrev pub writes_name : List ℕ → Option Opened → Bool
writes_name name None = false
writes_name name (Some h) = writes h.mode && bytes_eq h.name name

-- the file is open to be written
abbrev pub is_written : State → List ℕ → Bool
is_written s name = list_any (writes_name name) s.handles

-- the names with one more, where it is new
abbrev pub with_name : List (List ℕ) → List ℕ → List (List ℕ)
with_name names name = if list_any (λ x. bytes_eq x name) names then names else names ++ name ∷ []

abbrev pub noting : List (List ℕ) → State → State
noting names s = record s { names = names }

-- what stands against opening a file, in this order
abbrev pub open_fault : Given → State → (to : ℕ) → (name : List ℕ) → Mode → Option FaultKind
open_fault t s to name mode =
    option_or (fault_if (is_some (opened_at s to)) HandleOpen)
    (option_or (fault_if (not (is_name name)) BadName)
    (option_or (fault_if (writes mode && is_own_text t name) OwnText)
    (option_or (fault_if (is_written s name) FileOpen)
    (option_or (fault_if (nat_le HANDLE_LIMIT (count_by is_some s.handles)) TooManyOpen)
    (fault_if (nat_lt NAME_LIMIT (length (with_name s.names name))) TooManyNames)))))

abbrev pub fresh : (name : List ℕ) → Mode → (content : List ℕ) → Opened
fresh name mode content = record { name = name; mode = mode; content = content; at = 0 }

-- the file is open with this content
abbrev pub shows : (to : ℕ) → (name : List ℕ) → Mode → (content : List ℕ) → Meaning
shows to name mode content n s = Done n (with_handle to (Some (fresh name mode content)) s)

-- an absent file can't be read, and is empty where it is appended to
abbrev pub absent : (line to : ℕ) → (name : List ℕ) → Mode → Meaning
absent line to name R n s = fails line NoFile s
absent line to name W n s = shows to name W [] n s
absent line to name A n s = shows to name A [] n s

abbrev pub opened : Answer → (line to : ℕ) → (name : List ℕ) → Mode → Meaning
opened (Bytes bytes) line to name mode n s = shows to name mode bytes n s
opened Absent line to name mode n s = absent line to name mode n s
opened TooLong line to name mode n s = fails line FileTooLong s
opened Went line to name mode n s = shows to name mode [] n s
opened (Val v) line to name mode n s = shows to name mode [] n s

abbrev pub asks_to_open : (line to : ℕ) → (name : List ℕ) → Mode → Meaning
asks_to_open line to name mode n s = action line s
    (λ u. Ask (OpenFile name mode line) u (λ a. opened a line to name mode n u))

-- a file that is to be written is empty at first, and nothing is asked
abbrev pub opening : (line to : ℕ) → (name : List ℕ) → Mode → Meaning
opening line to name R n s = asks_to_open line to name R n s
opening line to name W n s = shows to name W [] n s
opening line to name A n s = asks_to_open line to name A n s

abbrev pub do_open : Given → (line to : ℕ) → Placed → Mode → Meaning
do_open t line to path mode =
    step (λ n s. valued line path s (λ v u. unless (open_fault t u to (text_of v) mode) line u
    (opening line to (text_of v) mode n (noting (with_name u.names (text_of v)) u))))

abbrev pub closed : (i : ℕ) → State → State
closed i s = with_handle i None s

-- what was written is the file from then on
abbrev pub closing_by : Mode → (line i : ℕ) → Opened → Meaning
closing_by R line i h n s = Done n (closed i s)
closing_by W line i h n s = action line s (λ u. Ask (CloseFile h.name h.content) (closed i u)
    (λ a. Done n (closed i u)))
closing_by A line i h n s = action line s (λ u. Ask (CloseFile h.name h.content) (closed i u)
    (λ a. Done n (closed i u)))

abbrev pub closing : (line i : ℕ) → Option Opened → Meaning
closing line i None n s = fails line HandleClosed s
closing line i (Some h) n s = closing_by h.mode line i h n s

abbrev pub do_close : (line i : ℕ) → Meaning
do_close line i = step (λ n s. closing line i (opened_at s i) n s)

abbrev pub appended : List ℕ → Opened → Opened
appended out h = record h { content = h.content ++ out }

-- the content grows within the limit of a file
abbrev pub writing : (line i : ℕ) → List ℕ → Option Opened → Meaning
writing line i out None n s = fails line HandleClosed s
writing line i out (Some h) n s =
    if not (writes h.mode) then fails line WrongMode s
    else (if nat_le (length (h.content ++ out)) FILE_LIMIT
    then Done n (with_handle i (Some (appended out h)) s) else fails line FileTooLong s)

abbrev pub do_print_file : (line i : ℕ) → (format : List ℕ) → List Placed → Meaning
do_print_file line i format args = step
    (λ n s. all_valued line args s (λ vs u. writing line i (formatted format vs) (opened_at u i) n
    u))

abbrev pub read_to : (next : ℕ) → Opened → Opened
read_to next h = record h { at = next }

abbrev pub line_taken : (line got_at i to : ℕ) → Opened → Result Taken FaultKind → Meaning
line_taken line got_at i to h (Err kind) n s = fails line kind s
line_taken line got_at i to h (Ok no_more) n s = Done n (set_to got_at (Int (pos 0)) s)
line_taken line got_at i to h (Ok (got bytes next)) n s =
    Done n (set_to got_at (Int (pos 1))
    (set_to to (Str bytes) (with_handle i (Some (read_to next h)) s)))

abbrev pub reading : (line got_at i to : ℕ) → Option Opened → Meaning
reading line got_at i to None n s = fails line HandleClosed s
reading line got_at i to (Some h) n s = if writes h.mode then fails line WrongMode s
    else line_taken line got_at i to h (read_line_at h.content h.at) n s

abbrev pub do_read : (line got_at i to : ℕ) → Meaning
do_read line got_at i to = step (λ n s. reading line got_at i to (opened_at s i) n s)

abbrev pub do_barrier : (line : ℕ) → Meaning
do_barrier line = step (λ n s. action line s (λ u. Ask Barrier u (λ a. Done n u)))

-- ---- task calls

-- an argument is evaluated, or is the variable that a number or a string is left in
pub data Handed : Type 0 where
  by_value : Placed → Handed
  into : (i : ℕ) → Handed

abbrev pub variable_of : Term → List ℕ
variable_of (var name) = name.text
variable_of t = []

abbrev pub handed : (names : List (List ℕ)) → Param → Passed → Handed
handed names p a = if is_out_scalar p then into (place_of names (variable_of a.value))
    else by_value (placed names a.value)

abbrev pub all_handed : (names : List (List ℕ)) → List Param → List Passed → List Handed
all_handed names [] args = []
all_handed names (p ∷ ps) [] = []
all_handed names (p ∷ ps) (a ∷ args) = handed names p a ∷ all_handed names ps args

abbrev pub arg_of : ParamKind → Value → CallArg
arg_of kind.File v = arg.File (text_of v)
arg_of kind.Int v = arg.Int (int_of v)
arg_of kind.Str v = arg.Str (text_of v)

abbrev pub out_of : ParamKind → CallArg
out_of kind.File = arg.OutInt
out_of kind.Int = arg.OutInt
out_of kind.Str = arg.OutStr

-- what stands at each place, from the left
abbrev pub passed_valued : (line : ℕ) → List Param → List Handed → State
    → (List CallArg → State → Dialogue) → Dialogue
passed_valued line [] args s go = go [] s
passed_valued line (p ∷ ps) [] s go = go [] s
passed_valued line (p ∷ ps) (into i ∷ args) s go = passed_valued line ps args s
    (λ vs u. go (out_of p.kind ∷ vs) u)
passed_valued line (p ∷ ps) (by_value t ∷ args) s go =
    valued line t s (λ v u. passed_valued line ps args u (λ vs w. go (arg_of p.kind v ∷ vs) w))

-- the file at a place
abbrev pub file_at : CallArg → Option (List ℕ)
file_at (arg.File name) = Some name
file_at (arg.Int v) = None
file_at (arg.Str s) = None
file_at arg.OutInt = None
file_at arg.OutStr = None

-- what stands against a file at a place, in this order
abbrev pub file_fault : Given → State → Param → Option (List ℕ) → Option FaultKind
file_fault t s p None = None
file_fault t s p (Some name) =
    option_or (fault_if (not (is_name name)) BadName)
    (option_or (fault_if (writes_file p && is_own_text t name) OwnText)
    (fault_if (is_written s name) FileOpen))

-- the first place counts
abbrev pub files_fault : Given → State → List Param → List CallArg → Option FaultKind
files_fault t s [] args = None
files_fault t s (p ∷ ps) [] = None
files_fault t s (p ∷ ps) (a ∷ args) = option_or (file_fault t s p (file_at a))
    (files_fault t s ps args)

abbrev pub cons_some : Option (List ℕ) → List (List ℕ) → List (List ℕ)
cons_some None xs = xs
cons_some (Some x) xs = x ∷ xs

-- the files at all places
abbrev pub files_in : List CallArg → List (List ℕ)
files_in [] = []
files_in (a ∷ args) = cons_some (file_at a) (files_in args)

-- the files at the places where the operation leaves one
abbrev pub written_in : List Param → List CallArg → List (List ℕ)
written_in [] args = []
written_in (p ∷ ps) [] = []
written_in (p ∷ ps) (a ∷ args) = if writes_file p then cons_some (file_at a) (written_in ps args)
    else written_in ps args

abbrev pub has_twice : List (List ℕ) → Bool
has_twice [] = false
has_twice (x ∷ xs) = list_any (bytes_eq x) xs || has_twice xs

-- the names with these, each where it is new
abbrev pub with_names : List (List ℕ) → List (List ℕ) → List (List ℕ)
with_names names [] = names
with_names names (x ∷ xs) = with_names (with_name names x) xs

-- what stands against a call, in this order
abbrev pub call_fault : Given → State → List Param → List CallArg → Option FaultKind
call_fault t s ps args =
    option_or (files_fault t s ps args)
    (option_or (fault_if (has_twice (written_in ps args)) SameOut)
    (option_or (fault_if (nat_le TASK_LIMIT s.tasks) TooManyTasks)
    (fault_if (nat_lt NAME_LIMIT (length (with_names s.names (files_in args)))) TooManyNames)))

-- the variables wait for the task's values; places are numbered from 1
abbrev pub pended : (n place : ℕ) → List Handed → List Slot → List Slot
pended n place [] vars = vars
pended n place (by_value t ∷ args) vars = pended n (suc place) args vars
pended n place (into i ∷ args) vars = pended n (suc place) args (set vars i (Due n place))

abbrev pub numbered : State → State
numbered s = record s { tasks = s.tasks + 1 }

abbrev pub pending : List Handed → State → State
pending args s = record s { vars = pended s.tasks 1 args s.vars }

abbrev pub went : Answer → (line : ℕ) → List Handed → Meaning
went Absent line args n s = fails line NoFile s
went TooLong line args n s = fails line FileTooLong s
went Went line args n s = Done n (pending args s)
went (Val v) line args n s = Done n (pending args s)
went (Bytes bytes) line args n s = Done n (pending args s)

-- the task is counted as it is called
abbrev pub calling : (line op : ℕ) → List Handed → List CallArg → Meaning
calling line op args vs n s = action line s (λ u. Ask (Call op line vs) (numbered u)
    (λ a. went a line args n (numbered u)))

abbrev pub do_call : Given → (line op : ℕ) → List Param → List Handed → Meaning
do_call t line op ps args =
    step (λ n s. passed_valued line ps args s (λ vs u. unless (call_fault t u ps vs) line u
    (calling line op args vs n (noting (with_names u.names (files_in vs)) u))))

abbrev pub do_call_at : Given → (line : ℕ) → (op : Option ℕ) → List Passed → Meaning
do_call_at t line None args = λ n s. Done n s
do_call_at t line (Some op) args = do_call t line op (params_at t.ops op)
    (all_handed (names_of t) (params_at t.ops op) args)

-- ---- tests and loops

-- a test, which goes on by whether it is 0
abbrev pub tested : (line : ℕ) → Placed → (Bool → Meaning) → Meaning
tested line test go = step (λ n s. valued line test s (λ v u. go (is_zero (int_of v)) n u))

abbrev pub branch : Bool → Meaning → Meaning → Meaning
branch true go other n s = other n s
branch false go other n s = go n s

abbrev pub ended : Meaning
ended n s = Done n s

-- at most this many tests of a loop
unfoldable pub turns : ℕ → ℕ → Placed → Meaning → Meaning
turns zero line test body n s = Stop FuelOut s
turns (suc k) line test body n s = tested line test
    (λ ends. branch ends (λ n s. then_do (body n s) (turns k line test body)) ended) n s

-- an absent test is true
abbrev pub test_or_true : Option Term → (line : ℕ) → Term
test_or_true None line = num line (pos 1)
test_or_true (Some t) line = t

abbrev pub run_setting : Given → Setting → Meaning
run_setting t a n s = do_set a.to.line (place_of (names_of t) a.to.text)
    (placed (names_of t) a.value) n s

abbrev pub run_maybe : Given → Option Setting → Meaning
run_maybe t None n s = Done n s
run_maybe t (Some a) n s = run_setting t a n s

-- ---- statements

abbrev pub variable : Given → List ℕ → ℕ
variable t name = place_of (names_of t) name

abbrev mutual
  pub run : Given → Code → Meaning
  run t (empty line) n s = step ended n s
  run t (block line body) n s = run_all t body n s
  run t (assign a) n s = run_setting t a n s
  run t (choose line test then_do else_do) n s =
      tested line (placed (names_of t) test)
      (λ b. branch b (run_all t then_do) (run_else t else_do)) n s
  -- each test costs a step, so there are no more tests than steps
  run t (while line test body) n s = turns (suc n) line (placed (names_of t) test) (run_all t body)
      n s
  run t (for line first test step body) n s =
      then_do (run_maybe t first n s)
      (λ n s. turns (suc n) line (placed (names_of t) (test_or_true test line))
      (λ n s. then_do (run_all t body n s) (run_maybe t step)) n s)
  run t (open_file line to path mode) n s = do_open t line (variable t to.text)
      (placed (names_of t) path) mode n s
  run t (read_line line got_at handle to) n s = do_read line (variable t got_at.text)
      (variable t handle.text) (variable t to.text) n s
  run t (close_file line handle) n s = do_close line (variable t handle.text) n s
  run t (barrier line) n s = do_barrier line n s
  run t (print line format args) n s = do_print line format.text (all_placed (names_of t) args) n s
  run t (print_file line handle format args) n s = do_print_file line (variable t handle.text)
      format.text (all_placed (names_of t) args) n s
  run t (print_str line to format args) n s = do_print_str line (variable t to.text) format.text
      (all_placed (names_of t) args) n s
  run t (call op args) n s = do_call_at t op.line (op_place t.ops op.text) args n s

  pub run_all : Given → Codes → Meaning
  run_all t none n s = Done n s
  run_all t (one c cs) n s = then_do (run t c n s) (run_all t cs)

  pub run_else : Given → MaybeCodes → Meaning
  run_else t without n s = Done n s
  run_else t (otherwise body) n s = run_all t body n s

-- ---- a whole program

abbrev pub run_first : Given → List Setting → Meaning
run_first t [] n s = Done n s
run_first t (a ∷ more) n s = then_do (run_setting t a n s) (run_first t more)

-- the variables from i on that wait are asked for, in the order of their declaration
abbrev pub settled : (line i : ℕ) → List Slot → State → Dialogue
settled line i [] s = Stop End s
settled line i (Held v ∷ vars) s = settled line (suc i) vars s
settled line i (Due n place ∷ vars) s = used line i n place s (λ v u. settled line (suc i) vars u)

abbrev pub leaving : (line : ℕ) → Bool → State → Dialogue
leaving line true s = fails line StillOpen s
leaving line false s = settled line 0 s.vars s

abbrev pub finish : (line : ℕ) → Meaning
finish line = step (λ n s. leaving line (list_any is_some s.handles) s)

abbrev pub first_slot : VarKind → Slot
first_slot var_kind.Int = Held (Int (pos 0))
first_slot var_kind.Str = Held (Str [])
first_slot var_kind.Handle = Held (Int (pos 0))

abbrev pub start : Given → State
start t = record {
  vars = map (λ v. first_slot v.1) t.program.vars;
  handles = map (λ v. None) t.program.vars;
  text = [];
  names = [];
  tasks = 0;
  actions = 0;
}

-- the initial assignments, GS_On, the statements, and GS_Off
abbrev pub dialogue : Given → (fuel : ℕ) → Dialogue
dialogue t fuel =
    then_do (run_first t t.program.first fuel (start t))
    (λ n s. then_do (step ended n s) (λ n s. then_do (run_all t t.program.body n s)
    (finish t.program.off)))

-- ---- a dialogue with the answers so far

pub data Outcome : Type 0 where
  Goes : (steps : ℕ) (s : State) (rest : List Answer) → Outcome
  Asks : (q : Question) (s : State) → Outcome

abbrev pub after : Dialogue → List Answer → Outcome
after (Done n s) answers = Goes n s answers
after (Ask q s next) [] = Asks q s
after (Ask q s next) (a ∷ answers) = after (next a) answers
after (Stop q s) answers = Asks q s

-- the next question after a list of answers, with the text and the variables so far
abbrev pub talk : Given → (fuel : ℕ) → List Answer → Outcome
talk t fuel answers = after (dialogue t fuel) answers
