-- With more steps a program asks the same.
use Rattle.std.proofs.Common.{◌≡◌, ◌<◌, ◌≤◌, ◌-◌, ◌+◌, ◌++◌, ℕ, zero, suc, Bool, true, false, not, refl, subst, List, [], ◌∷◌, length, Result, Ok, Err, Option, Some, None, arith, le_refl, if◌then◌else◌, nat_le, inl, inr}
use Rattle.std.specs.List.{list_any}
use Rattle.std.specs.Prelude.{is_some}
use Rattle.gs_idl.specs.Interface.{Param, op_place, params_at}
use Rattle.gs_tree.specs.declared.tree.Mode.{Mode}
use Rattle.gs_tree.specs.declared.tree.Mode.TheVariants.{R, W, A}
use Rattle.gs_tree.specs.Program.{Setting, Passed, Code, empty, block, set as assign, choose, while, for, open_file, read_line, close_file, barrier, print, print_file, print_str, call, Codes, none, one, MaybeCodes, without, otherwise}
use Rattle.gs_types.specs.declared.value.Value.{Value}
use Rattle.gs_types.specs.declared.value.Value.TheVariants.{Str}
use Rattle.gs_types.specs.declared.limits.TheConstants.{FILE_LIMIT, STRING_LIMIT, PRINTED_LIMIT}
use Rattle.gs_types.specs.declared.settings.FaultKind.{FaultKind}
use Rattle.gs_types.specs.declared.settings.FaultKind.TheVariants.{StringTooLong, TextTooLong, FileTooLong, WrongMode}
use Rattle.gs_talk.specs.declared.slot.Slot.{Slot}
use Rattle.gs_talk.specs.declared.slot.Slot.TheVariants.{Held, Due}
use Rattle.gs_talk.specs.declared.question.CallArg.{CallArg}
use Rattle.gs_talk.specs.declared.question.Question.TheVariants.{Call, OpenFile, CloseFile, Barrier}
use Rattle.gs_talk.specs.declared.question.Answer.{Answer}
use Rattle.gs_talk.specs.declared.question.Answer.TheVariants.{Went, Val, Bytes, Absent, TooLong}
use Rattle.gs_talk.specs.Terms.{Placed, placed, all_placed}
use Rattle.gs_talk.specs.Values.{is_zero, int_of, text_of}
use Rattle.gs_talk.specs.Texts.{formatted, Taken, no_more, got, read_line_at}
use Rattle.gs_talk.specs.Talk.{Given, names_of, State, Opened, Done, Ask, Meaning, then_do, step, fails, unless, action, set_to, with_text, with_handle, appended, closed, numbered, valued, all_valued, passed_valued, do_set, printing, do_print, printing_str, do_print_str, opened_at, open_fault, with_name, noting, absent, opened, asks_to_open, opening, do_open, closing_by, closing, do_close, writes, writing, do_print_file, line_taken, reading, do_read, do_barrier, Handed, all_handed, call_fault, files_in, with_names, went, calling, do_call, do_call_at, tested, branch, ended, turns, test_or_true, run_setting, run_maybe, variable, run, run_all, run_else, run_first, settled, leaving, finish, start, dialogue}
use Rattle.gs_talk_laws.specs.Fuels.{Cut, SmallerIsCut}
use Rattle.gs_talk_laws.proofs.Fuel.{Then, ThenAll, ThenArgs, Extends, extends_cut, extends_then, extends_wider, Grows, step_grows, done_grows, unless_extends, ask_extends, done_or_fails, fails_or, used_extends, valued_extends, all_extends, passed_extends}

value_grows : (x line : ℕ) (t : Placed) (go go' : ℕ → Then) → ((n : ℕ) (v : Value) (u : State) → Extends x n (go n v u) (go' (n + x) v u)) → Grows x (step (λ n s. valued line t s (go n))) (step (λ n s. valued line t s (go' n)))
value_grows x line t go go' h = step_grows x (λ n s. valued line t s (go n)) (λ n s. valued line t s (go' n)) (λ n s. valued_extends t x n line s (go n) (go' (n + x)) (h n))

values_grow : (x line : ℕ) (ts : List Placed) (go go' : ℕ → ThenAll) → ((n : ℕ) (vs : List Value) (u : State) → Extends x n (go n vs u) (go' (n + x) vs u)) → Grows x (step (λ n s. all_valued line ts s (go n))) (step (λ n s. all_valued line ts s (go' n)))
values_grow x line ts go go' h = step_grows x (λ n s. all_valued line ts s (go n)) (λ n s. all_valued line ts s (go' n)) (λ n s. all_extends ts x n line s (go n) (go' (n + x)) (h n))

-- ---- assignments and prints

set_grows : (x line to : ℕ) (t : Placed) → Grows x (do_set line to t) (do_set line to t)
set_grows x line to t = value_grows x line t (λ n v u. Done n (set_to to v u)) (λ n v u. Done n (set_to to v u)) (λ n v u. done_grows x n (set_to to v u))

printing_grows : (x line : ℕ) (out : List ℕ) → Grows x (printing line out) (printing line out)
printing_grows x line out n s = done_or_fails x n (nat_le (length (s.text ++ out)) PRINTED_LIMIT) line TextTooLong s (with_text (s.text ++ out) s)

printing_str_grows : (x line to : ℕ) (out : List ℕ) → Grows x (printing_str line to out) (printing_str line to out)
printing_str_grows x line to out n s = done_or_fails x n (nat_le (length out) STRING_LIMIT) line StringTooLong s (set_to to (Str out) s)

print_grows : (x line : ℕ) (format : List ℕ) (args : List Placed) → Grows x (do_print line format args) (do_print line format args)
print_grows x line format args =
    values_grow x line args (λ n vs u. printing line (formatted format vs) n u) (λ n vs u. printing line (formatted format vs) n u) (λ n vs u. printing_grows x line (formatted format vs) n u)

print_str_grows : (x line to : ℕ) (format : List ℕ) (args : List Placed) → Grows x (do_print_str line to format args) (do_print_str line to format args)
print_str_grows x line to format args =
    values_grow x line args (λ n vs u. printing_str line to (formatted format vs) n u) (λ n vs u. printing_str line to (formatted format vs) n u) (λ n vs u. printing_str_grows x line to (formatted format vs) n u)

-- ---- files

absent_grows : (x line to : ℕ) (name : List ℕ) (m : Mode) → Grows x (absent line to name m) (absent line to name m)
absent_grows x line to name R n s = inr refl
absent_grows x line to name W n s = done_grows x n _
absent_grows x line to name A n s = done_grows x n _

opened_grows : (x : ℕ) (a : Answer) (line to : ℕ) (name : List ℕ) (m : Mode) → Grows x (opened a line to name m) (opened a line to name m)
opened_grows x (Bytes bytes) line to name m n s = done_grows x n _
opened_grows x Absent line to name m n s = absent_grows x line to name m n s
opened_grows x TooLong line to name m n s = inr refl
opened_grows x Went line to name m n s = done_grows x n _
opened_grows x (Val v) line to name m n s = done_grows x n _

asks_to_open_grows : (x line to : ℕ) (name : List ℕ) (m : Mode) → Grows x (asks_to_open line to name m) (asks_to_open line to name m)
asks_to_open_grows x line to name m n s = ask_extends x n line s (OpenFile name m line) (λ u. u) (λ u a. opened a line to name m n u) (λ u a. opened a line to name m (n + x) u) (λ u a. opened_grows x a line to name m n u)

opening_grows : (x line to : ℕ) (name : List ℕ) (m : Mode) → Grows x (opening line to name m) (opening line to name m)
opening_grows x line to name R n s = asks_to_open_grows x line to name R n s
opening_grows x line to name W n s = done_grows x n _
opening_grows x line to name A n s = asks_to_open_grows x line to name A n s

abbrev pub noting_one : Value → State → State
noting_one v u = noting (with_name u.names (text_of v)) u

abbrev pub opens : Given → (line to : ℕ) → Mode → ℕ → Then
opens t line to m n v u = unless (open_fault t u to (text_of v) m) line u (opening line to (text_of v) m n (noting_one v u))

open_grows : (x : ℕ) (t : Given) (line to : ℕ) (path : Placed) (m : Mode) → Grows x (do_open t line to path m) (do_open t line to path m)
open_grows x t line to path m = value_grows x line path (opens t line to m) (opens t line to m)
    (λ n v u. unless_extends x n (open_fault t u to (text_of v) m) line u (opening line to (text_of v) m n (noting_one v u)) (opening line to (text_of v) m (n + x) (noting_one v u)) (opening_grows x line to (text_of v) m n (noting_one v u)))

closing_by_grows : (x : ℕ) (m : Mode) (line i : ℕ) (h : Opened) → Grows x (closing_by m line i h) (closing_by m line i h)
closing_by_grows x R line i h n s = done_grows x n _
closing_by_grows x W line i h n s = ask_extends x n line s (CloseFile h.name h.content) (closed i) (λ u a. Done n (closed i u)) (λ u a. Done (n + x) (closed i u)) (λ u a. done_grows x n (closed i u))
closing_by_grows x A line i h n s = ask_extends x n line s (CloseFile h.name h.content) (closed i) (λ u a. Done n (closed i u)) (λ u a. Done (n + x) (closed i u)) (λ u a. done_grows x n (closed i u))

closing_grows : (x line i : ℕ) (o : Option Opened) → Grows x (closing line i o) (closing line i o)
closing_grows x line i None n s = inr refl
closing_grows x line i (Some h) n s = closing_by_grows x h.mode line i h n s

writing_grows : (x line i : ℕ) (out : List ℕ) (o : Option Opened) → Grows x (writing line i out o) (writing line i out o)
writing_grows x line i out None n s = inr refl
writing_grows x line i out (Some h) n s =
    let long = nat_le (length (h.content ++ out)) FILE_LIMIT in
    let u = with_handle i (Some (appended out h)) s in
    fails_or x n (not (writes h.mode)) line WrongMode s (if long then Done n u else fails line FileTooLong s) (if long then Done (n + x) u else fails line FileTooLong s) (done_or_fails x n long line FileTooLong s u)

print_file_grows : (x line i : ℕ) (format : List ℕ) (args : List Placed) → Grows x (do_print_file line i format args) (do_print_file line i format args)
print_file_grows x line i format args =
    values_grow x line args (λ n vs u. writing line i (formatted format vs) (opened_at u i) n u) (λ n vs u. writing line i (formatted format vs) (opened_at u i) n u) (λ n vs u. writing_grows x line i (formatted format vs) (opened_at u i) n u)

close_grows : (x line i : ℕ) → Grows x (do_close line i) (do_close line i)
close_grows x line i = step_grows x (λ n s. closing line i (opened_at s i) n s) (λ n s. closing line i (opened_at s i) n s) (λ n s. closing_grows x line i (opened_at s i) n s)

taken_grows : (x line got_at i to : ℕ) (h : Opened) (r : Result Taken FaultKind) → Grows x (line_taken line got_at i to h r) (line_taken line got_at i to h r)
taken_grows x line got_at i to h (Err kind) n s = inr refl
taken_grows x line got_at i to h (Ok no_more) n s = done_grows x n _
taken_grows x line got_at i to h (Ok (got bytes next)) n s = done_grows x n _

reading_grows : (x line got_at i to : ℕ) (o : Option Opened) → Grows x (reading line got_at i to o) (reading line got_at i to o)
reading_grows x line got_at i to None n s = inr refl
reading_grows x line got_at i to (Some h) n s =
    let r = read_line_at h.content h.at in
    fails_or x n (writes h.mode) line WrongMode s (line_taken line got_at i to h r n s) (line_taken line got_at i to h r (n + x) s) (taken_grows x line got_at i to h r n s)

read_grows : (x line got_at i to : ℕ) → Grows x (do_read line got_at i to) (do_read line got_at i to)
read_grows x line got_at i to =
    step_grows x (λ n s. reading line got_at i to (opened_at s i) n s) (λ n s. reading line got_at i to (opened_at s i) n s) (λ n s. reading_grows x line got_at i to (opened_at s i) n s)

barrier_asks : (x line : ℕ) → Grows x (λ n s. action line s (λ u. Ask Barrier u (λ a. Done n u))) (λ n s. action line s (λ u. Ask Barrier u (λ a. Done n u)))
barrier_asks x line n s = ask_extends x n line s Barrier (λ u. u) (λ u a. Done n u) (λ u a. Done (n + x) u) (λ u a. done_grows x n u)

barrier_grows : (x line : ℕ) → Grows x (do_barrier line) (do_barrier line)
barrier_grows x line = step_grows x (λ n s. action line s (λ u. Ask Barrier u (λ a. Done n u))) (λ n s. action line s (λ u. Ask Barrier u (λ a. Done n u))) (barrier_asks x line)

-- ---- calls

went_grows : (x : ℕ) (a : Answer) (line : ℕ) (args : List Handed) → Grows x (went a line args) (went a line args)
went_grows x Absent line args n s = inr refl
went_grows x TooLong line args n s = inr refl
went_grows x Went line args n s = done_grows x n _
went_grows x (Val v) line args n s = done_grows x n _
went_grows x (Bytes b) line args n s = done_grows x n _

calling_grows : (x line op : ℕ) (args : List Handed) (vs : List CallArg) → Grows x (calling line op args vs) (calling line op args vs)
calling_grows x line op args vs n s = ask_extends x n line s (Call op line vs) numbered (λ u a. went a line args n (numbered u)) (λ u a. went a line args (n + x) (numbered u)) (λ u a. went_grows x a line args n (numbered u))

abbrev pub noting_all : List CallArg → State → State
noting_all vs u = noting (with_names u.names (files_in vs)) u

abbrev pub calls : Given → (line op : ℕ) → List Param → List Handed → ℕ → ThenArgs
calls t line op ps args n vs u = unless (call_fault t u ps vs) line u (calling line op args vs n (noting_all vs u))

call_grows : (x : ℕ) (t : Given) (line op : ℕ) (ps : List Param) (args : List Handed) → Grows x (do_call t line op ps args) (do_call t line op ps args)
call_grows x t line op ps args =
    step_grows x (λ n s. passed_valued line ps args s (calls t line op ps args n)) (λ n s. passed_valued line ps args s (calls t line op ps args n))
    (λ n s. passed_extends ps args x n line s (calls t line op ps args n) (calls t line op ps args (n + x))
    (λ vs u. unless_extends x n (call_fault t u ps vs) line u (calling line op args vs n (noting_all vs u)) (calling line op args vs (n + x) (noting_all vs u)) (calling_grows x line op args vs n (noting_all vs u))))

call_at_grows : (x : ℕ) (t : Given) (line : ℕ) (op : Option ℕ) (args : List Passed) → Grows x (do_call_at t line op args) (do_call_at t line op args)
call_at_grows x t line None args n s = done_grows x n s
call_at_grows x t line (Some op) args n s = call_grows x t line op (params_at t.ops op) (all_handed (names_of t) (params_at t.ops op) args) n s

-- ---- tests and loops

branch_grows : (x : ℕ) (b : Bool) (go go' other other' : Meaning) → Grows x go go' → Grows x other other' → Grows x (branch b go other) (branch b go' other')
branch_grows x true go go' other other' h k n s = k n s
branch_grows x false go go' other other' h k n s = h n s

tested_grows : (x line : ℕ) (t : Placed) (go go' : Bool → Meaning) → ((b : Bool) → Grows x (go b) (go' b)) → Grows x (tested line t go) (tested line t go')
tested_grows x line t go go' h = value_grows x line t (λ n v u. go (is_zero (int_of v)) n u) (λ n v u. go' (is_zero (int_of v)) n u) (λ n v u. h (is_zero (int_of v)) n u)

then_grows : (x : ℕ) (body body' go go' : Meaning) (m : ℕ) → ((n : ℕ) (s : State) → n ≤ m → Extends x n (body n s) (body' (n + x) s)) → ((n : ℕ) (s : State) → n ≤ m → Extends x n (go n s) (go' (n + x) s)) → (s : State) → Extends x m (then_do (body m s) go) (then_do (body' (m + x) s) go')
then_grows x body body' go go' m h k s =
    extends_then x m (body m s) (body' (m + x) s) go go' (h m s (le_refl m)) (λ n u le. extends_wider x n m (go n u) (go' (n + x) u) le (k n u le))

pub open_at : (k n line : ℕ) (t : Placed) (body : Meaning) (s : State) → turns (suc k) line t body n s ≡ tested line t (λ ends. branch ends (λ n s. then_do (body n s) (turns k line t body)) ended) n s
unfolding turns
open_at k n line t body s = refl

turn_open : (k n line : ℕ) (t : Placed) (body : Meaning) (s : State) → n < k → turns k line t body n s ≡ tested line t (λ ends. branch ends (λ n s. then_do (body n s) (turns (k - 1) line t body)) ended) n s
turn_open zero n line t body s lt = absurd (omega arith)
turn_open (suc k) n line t body s lt = let p : suc k - 1 ≡ k = omega arith in rw p (open_at k n line t body s)

-- the test of a loop with n steps left goes on with fewer
tested_below : (x line : ℕ) (t : Placed) (go go' : Bool → Meaning) (n : ℕ) (s : State) → ((b : Bool) (m : ℕ) (u : State) → m < n → Extends x m (go b m u) (go' b (m + x) u)) → Extends x n (tested line t go n s) (tested line t go' (n + x) s)
tested_below x line t go go' zero s h = inl refl
tested_below x line t go go' (suc n) s h =
    let e : suc n + x ≡ suc (n + x) = omega arith in
    rw e (valued_extends t x (suc n) line s (λ v u. go (is_zero (int_of v)) n u) (λ v u. go' (is_zero (int_of v)) (n + x) u)
    (λ v u. extends_wider x n (suc n) (go (is_zero (int_of v)) n u) (go' (is_zero (int_of v)) (n + x) u) (omega arith) (h (is_zero (int_of v)) n u (omega arith))))

turn_below : (x : ℕ) (body go go' : Meaning) (m : ℕ) (u : State) → Grows x body body → ((i : ℕ) (w : State) → i ≤ m → Extends x i (go i w) (go' (i + x) w)) → (ends : Bool) → Extends x m (branch ends (λ n s. then_do (body n s) go) ended m u) (branch ends (λ n s. then_do (body n s) go') ended (m + x) u)
turn_below x body go go' m u h k true = done_grows x m u
turn_below x body go go' m u h k false = then_grows x body body go go' m (λ n s le. h n s) k u

turns_grow : (bound x k j line : ℕ) (t : Placed) (body : Meaning) (n : ℕ) (s : State) → n < bound → n < k → n + x < j → Grows x body body → Extends x n (turns k line t body n s) (turns j line t body (n + x) s)
turns_grow zero x k j line t body n s lt a b h = absurd (omega arith)
turns_grow (suc bound) x k j line t body n s lt a b h =
    let more : (m : ℕ) → m < n → (i : ℕ) (w : State) → i ≤ m → Extends x i (turns (k - 1) line t body i w) (turns (j - 1) line t body (i + x) w) =
    λ m below i w le. turns_grow bound x (k - 1) (j - 1) line t body i w (omega arith) (omega arith) (omega arith) h in
    rw (turn_open k n line t body s a, turn_open j (n + x) line t body s b)
    (tested_below x line t (λ ends. branch ends (λ n s. then_do (body n s) (turns (k - 1) line t body)) ended) (λ ends. branch ends (λ n s. then_do (body n s) (turns (j - 1) line t body)) ended) n s (λ ends m u below. turn_below x body (turns (k - 1) line t body) (turns (j - 1) line t body) m u h (more m below) ends))

setting_grows : (x : ℕ) (t : Given) (a : Setting) → Grows x (run_setting t a) (run_setting t a)
setting_grows x t a n s = set_grows x a.to.line (variable t a.to.text) (placed (names_of t) a.value) n s

maybe_grows : (x : ℕ) (t : Given) (o : Option Setting) → Grows x (run_maybe t o) (run_maybe t o)
maybe_grows x t None n s = done_grows x n s
maybe_grows x t (Some a) n s = setting_grows x t a n s

and_then_grows : (x : ℕ) (body go : Meaning) → Grows x body body → Grows x go go → Grows x (λ n s. then_do (body n s) go) (λ n s. then_do (body n s) go)
and_then_grows x body go h k n s = then_grows x body body go go n (λ m u le. h m u) (λ m u le. k m u) s

while_grows : (x line : ℕ) (t : Placed) (body : Meaning) → Grows x body body → Grows x (λ n s. turns (suc n) line t body n s) (λ n s. turns (suc n) line t body n s)
while_grows x line t body h n s = turns_grow (suc n) x (suc n) (suc (n + x)) line t body n s (omega arith) (omega arith) (omega arith) h

mutual
  run_grows : (x : ℕ) (t : Given) (c : Code) → Grows x (run t c) (run t c)
  run_grows x t (empty line) n s = step_grows x ended ended (done_grows x) n s
  run_grows x t (block line body) n s = run_all_grows x t body n s
  run_grows x t (assign a) n s = setting_grows x t a n s
  run_grows x t (choose line test then_c else_c) n s =
      tested_grows x line (placed (names_of t) test) (λ b. branch b (run_all t then_c) (run_else t else_c)) (λ b. branch b (run_all t then_c) (run_else t else_c))
      (λ b. branch_grows x b (run_all t then_c) (run_all t then_c) (run_else t else_c) (run_else t else_c) (run_all_grows x t then_c) (run_else_grows x t else_c)) n s
  run_grows x t (while line test body) n s = while_grows x line (placed (names_of t) test) (run_all t body) (run_all_grows x t body) n s
  run_grows x t (for line first test after body) n s =
      and_then_grows x (run_maybe t first) (λ n s. turns (suc n) line (placed (names_of t) (test_or_true test line)) (λ n s. then_do (run_all t body n s) (run_maybe t after)) n s) (maybe_grows x t first)
      (while_grows x line (placed (names_of t) (test_or_true test line)) (λ n s. then_do (run_all t body n s) (run_maybe t after)) (and_then_grows x (run_all t body) (run_maybe t after) (run_all_grows x t body) (maybe_grows x t after))) n s
  run_grows x t (open_file line to path m) n s = open_grows x t line (variable t to.text) (placed (names_of t) path) m n s
  run_grows x t (read_line line got_at handle to) n s = read_grows x line (variable t got_at.text) (variable t handle.text) (variable t to.text) n s
  run_grows x t (close_file line handle) n s = close_grows x line (variable t handle.text) n s
  run_grows x t (barrier line) n s = barrier_grows x line n s
  run_grows x t (print line format args) n s = print_grows x line format.text (all_placed (names_of t) args) n s
  run_grows x t (print_file line handle format args) n s = print_file_grows x line (variable t handle.text) format.text (all_placed (names_of t) args) n s
  run_grows x t (print_str line to format args) n s = print_str_grows x line (variable t to.text) format.text (all_placed (names_of t) args) n s
  run_grows x t (call op args) n s = call_at_grows x t op.line (op_place t.ops op.text) args n s

  run_all_grows : (x : ℕ) (t : Given) (cs : Codes) → Grows x (run_all t cs) (run_all t cs)
  run_all_grows x t none n s = done_grows x n s
  run_all_grows x t (one c cs) n s = and_then_grows x (run t c) (run_all t cs) (run_grows x t c) (run_all_grows x t cs) n s

  run_else_grows : (x : ℕ) (t : Given) (cs : MaybeCodes) → Grows x (run_else t cs) (run_else t cs)
  run_else_grows x t without n s = done_grows x n s
  run_else_grows x t (otherwise body) n s = run_all_grows x t body n s

-- ---- a whole program

first_grows : (x : ℕ) (t : Given) (settings : List Setting) → Grows x (run_first t settings) (run_first t settings)
first_grows x t [] n s = done_grows x n s
first_grows x t (a ∷ more) n s = and_then_grows x (run_setting t a) (run_first t more) (setting_grows x t a) (first_grows x t more) n s

settled_extends : (vars : List Slot) (x b line i : ℕ) (s : State) → Extends x b (settled line i vars s) (settled line i vars s)
settled_extends [] x b line i s = inr refl
settled_extends (Held v ∷ vars) x b line i s = settled_extends vars x b line (suc i) s
settled_extends (Due n k ∷ vars) x b line i s = used_extends x b line i n k s (λ v u. settled line (suc i) vars u) (λ v u. settled line (suc i) vars u) (λ v u. settled_extends vars x b line (suc i) u)

leaving_extends : (x b line : ℕ) (is_open : Bool) (s : State) → Extends x b (leaving line is_open s) (leaving line is_open s)
leaving_extends x b line true s = inr refl
leaving_extends x b line false s = settled_extends s.vars x b line 0 s

finish_grows : (x line : ℕ) → Grows x (finish line) (finish line)
finish_grows x line = step_grows x (λ n s. leaving line (list_any is_some s.handles) s) (λ n s. leaving line (list_any is_some s.handles) s) (λ n s. leaving_extends x n line (list_any is_some s.handles) s)

dialogue_grows : (x : ℕ) (t : Given) (fuel : ℕ) → Extends x fuel (dialogue t fuel) (dialogue t (fuel + x))
dialogue_grows x t fuel =
    and_then_grows x (run_first t t.program.first) (λ n s. then_do (step ended n s) (λ n s. then_do (run_all t t.program.body n s) (finish t.program.off))) (first_grows x t t.program.first)
    (and_then_grows x (step ended) (λ n s. then_do (run_all t t.program.body n s) (finish t.program.off)) (step_grows x ended ended (done_grows x))
    (and_then_grows x (run_all t t.program.body) (finish t.program.off) (run_all_grows x t t.program.body) (finish_grows x t.program.off))) fuel (start t)

-- of two fuels the smaller asks what the greater asks, but where it has no step left
pub dialogue_cut : SmallerIsCut
dialogue_cut t fuel more le =
    let same : fuel + (more - fuel) ≡ more = omega arith in
    subst (λ (m : ℕ). Cut (dialogue t fuel) (dialogue t m)) same (extends_cut (more - fuel) fuel (dialogue t fuel) (dialogue t (fuel + (more - fuel))) (dialogue_grows (more - fuel) t fuel))
