-- A program calls only operations that there are.
use Rattle.std.proofs.Common.{◌≡◌, ◌<◌, ◌++◌, ℕ, zero, suc, Bool, true, false, not, refl, List, [], ◌∷◌, length, Result, Ok, Err, Option, Some, None, arith, if◌then◌else◌, nat_le}
use Rattle.std.specs.List.{list_any}
use Rattle.std.specs.Str.{bytes_eq}
use Rattle.std.specs.Prelude.{is_some, option_map}
use Rattle.gs_idl.specs.Interface.{Signature, op_place, params_at}
use Rattle.gs_tree.specs.declared.tree.Mode.{Mode}
use Rattle.gs_tree.specs.declared.tree.Mode.TheVariants.{R, W, A}
use Rattle.gs_tree.specs.Program.{Setting, Passed, Code, empty, block, set as assign, choose, while, for, open_file, read_line, close_file, barrier, print, print_file, print_str, call, Codes, none, one, MaybeCodes, without, otherwise}
use Rattle.gs_types.specs.declared.value.Value.TheVariants.{Str}
use Rattle.gs_types.specs.declared.limits.TheConstants.{FILE_LIMIT, STRING_LIMIT, PRINTED_LIMIT}
use Rattle.gs_types.specs.declared.settings.FaultKind.{FaultKind}
use Rattle.gs_types.specs.declared.settings.FaultKind.TheVariants.{StringTooLong, TextTooLong, FileTooLong, WrongMode}
use Rattle.gs_talk.specs.declared.slot.Slot.{Slot}
use Rattle.gs_talk.specs.declared.slot.Slot.TheVariants.{Held, Due}
use Rattle.gs_talk.specs.declared.question.CallArg.{CallArg}
use Rattle.gs_talk.specs.declared.question.Question.TheVariants.{Call, OpenFile, CloseFile, Barrier}
use Rattle.gs_talk.specs.declared.question.Answer.{Answer}
use Rattle.gs_talk.specs.declared.question.Answer.TheVariants.{Went, Val, Bytes, Absent, TooLong}
use Rattle.gs_talk.specs.Terms.{Placed, placed, all_placed}
use Rattle.gs_talk.specs.Values.{is_zero, int_of, text_of}
use Rattle.gs_talk.specs.Texts.{formatted, Taken, no_more, got, read_line_at}
use Rattle.gs_talk.specs.Talk.{Given, names_of, State, Opened, Done, Ask, Meaning, then_do, step, fails, action, counted, numbered, set_to, with_text, with_handle, appended, closed, valued, all_valued, passed_valued, do_set, printing, do_print, printing_str, do_print_str, opened_at, open_fault, absent, opened, asks_to_open, opening, do_open, closing_by, closing, do_close, writes, writing, do_print_file, line_taken, reading, do_read, do_barrier, Handed, all_handed, call_fault, went, calling, do_call, do_call_at, tested, branch, ended, turns, test_or_true, run_setting, run_maybe, variable, run, run_all, run_else, run_first, settled, leaving, finish, start, dialogue}
use Rattle.gs_talk_laws.proofs.Fuel.{Then, ThenAll}
use Rattle.gs_talk_laws.proofs.Statements.{noting_one, opens, noting_all, calls}
use Rattle.gs_small.proofs.Asking.{AsksKnown, Knows, KnowsThen, KnowsAll, then_known, step_known, if_known, unless_known, ask_known, used_known, valued_known, all_known, passed_known}

value_knows : (count line : ℕ) (t : Placed) (go : ℕ → Then) → ((n : ℕ) → KnowsThen count (go n)) → Knows count (step (λ n s. valued line t s (go n)))
value_knows count line t go k = step_known count (λ n s. valued line t s (go n)) (λ n s. valued_known count t line (go n) s (k n))

values_know : (count line : ℕ) (ts : List Placed) (go : ℕ → ThenAll) → ((n : ℕ) → KnowsAll count (go n)) → Knows count (step (λ n s. all_valued line ts s (go n)))
values_know count line ts go k = step_known count (λ n s. all_valued line ts s (go n)) (λ n s. all_known count ts line (go n) s (k n))

-- ---- assignments and prints

set_knows : (count line to : ℕ) (t : Placed) → Knows count (do_set line to t)
set_knows count line to t = value_knows count line t (λ n v u. Done n (set_to to v u)) (λ n v s. tt)

printing_knows : (count line : ℕ) (out : List ℕ) → Knows count (printing line out)
printing_knows count line out n s =
    if_known count (nat_le (length (s.text ++ out)) PRINTED_LIMIT) (Done n (with_text (s.text ++ out) s)) (fails line TextTooLong s) tt tt

printing_str_knows : (count line to : ℕ) (out : List ℕ) → Knows count (printing_str line to out)
printing_str_knows count line to out n s = if_known count (nat_le (length out) STRING_LIMIT) (Done n (set_to to (Str out) s)) (fails line StringTooLong s) tt tt

print_knows : (count line : ℕ) (format : List ℕ) (args : List Placed) → Knows count (do_print line format args)
print_knows count line format args = values_know count line args (λ n vs u. printing line (formatted format vs) n u) (λ n vs s. printing_knows count line (formatted format vs) n s)

print_str_knows : (count line to : ℕ) (format : List ℕ) (args : List Placed) → Knows count (do_print_str line to format args)
print_str_knows count line to format args = values_know count line args (λ n vs u. printing_str line to (formatted format vs) n u) (λ n vs s. printing_str_knows count line to (formatted format vs) n s)

-- ---- files

absent_knows : (count line to : ℕ) (name : List ℕ) (m : Mode) → Knows count (absent line to name m)
absent_knows count line to name R n s = tt
absent_knows count line to name W n s = tt
absent_knows count line to name A n s = tt

opened_knows : (count : ℕ) (a : Answer) (line to : ℕ) (name : List ℕ) (m : Mode) → Knows count (opened a line to name m)
opened_knows count (Bytes bytes) line to name m n s = tt
opened_knows count Absent line to name m n s = absent_knows count line to name m n s
opened_knows count TooLong line to name m n s = tt
opened_knows count Went line to name m n s = tt
opened_knows count (Val v) line to name m n s = tt

asks_to_open_knows : (count line to : ℕ) (name : List ℕ) (m : Mode) → Knows count (asks_to_open line to name m)
asks_to_open_knows count line to name m n s =
    ask_known count line (OpenFile name m line) (λ u. u) (λ u a. opened a line to name m n u) s tt (λ a. opened_knows count a line to name m n (counted s))

opening_knows : (count line to : ℕ) (name : List ℕ) (m : Mode) → Knows count (opening line to name m)
opening_knows count line to name R n s = asks_to_open_knows count line to name R n s
opening_knows count line to name W n s = tt
opening_knows count line to name A n s = asks_to_open_knows count line to name A n s

open_knows : (count : ℕ) (t : Given) (line to : ℕ) (path : Placed) (m : Mode) → Knows count (do_open t line to path m)
open_knows count t line to path m = value_knows count line path (opens t line to m)
    (λ n v s. unless_known count (open_fault t s to (text_of v) m) line s (opening line to (text_of v) m n (noting_one v s)) (opening_knows count line to (text_of v) m n (noting_one v s)))

written_knows : (count line i : ℕ) (o : Opened) → Knows count (λ n s. action line s (λ u. Ask (CloseFile o.name o.content) (closed i u) (λ a. Done n (closed i u))))
written_knows count line i o n s = ask_known count line (CloseFile o.name o.content) (closed i) (λ u a. Done n (closed i u)) s tt (λ a. tt)

closing_by_knows : (count : ℕ) (m : Mode) (line i : ℕ) (o : Opened) → Knows count (closing_by m line i o)
closing_by_knows count R line i o n s = tt
closing_by_knows count W line i o n s = written_knows count line i o n s
closing_by_knows count A line i o n s = written_knows count line i o n s

closing_knows : (count line i : ℕ) (o : Option Opened) → Knows count (closing line i o)
closing_knows count line i None n s = tt
closing_knows count line i (Some o) n s = closing_by_knows count o.mode line i o n s

close_knows : (count line i : ℕ) → Knows count (do_close line i)
close_knows count line i = step_known count (λ n s. closing line i (opened_at s i) n s) (λ n s. closing_knows count line i (opened_at s i) n s)

writing_knows : (count line i : ℕ) (out : List ℕ) (o : Option Opened) → Knows count (writing line i out o)
writing_knows count line i out None n s = tt
writing_knows count line i out (Some o) n s =
    let short = nat_le (length (o.content ++ out)) FILE_LIMIT in
    let u = with_handle i (Some (appended out o)) s in
    if_known count (not (writes o.mode)) (fails line WrongMode s) (if short then Done n u else fails line FileTooLong s) tt (if_known count short (Done n u) (fails line FileTooLong s) tt tt)

print_file_knows : (count line i : ℕ) (format : List ℕ) (args : List Placed) → Knows count (do_print_file line i format args)
print_file_knows count line i format args =
    values_know count line args (λ n vs u. writing line i (formatted format vs) (opened_at u i) n u) (λ n vs s. writing_knows count line i (formatted format vs) (opened_at s i) n s)

taken_knows : (count line got_at i to : ℕ) (o : Opened) (r : Result Taken FaultKind) → Knows count (line_taken line got_at i to o r)
taken_knows count line got_at i to o (Err fault) n s = tt
taken_knows count line got_at i to o (Ok no_more) n s = tt
taken_knows count line got_at i to o (Ok (got bytes next)) n s = tt

reading_knows : (count line got_at i to : ℕ) (o : Option Opened) → Knows count (reading line got_at i to o)
reading_knows count line got_at i to None n s = tt
reading_knows count line got_at i to (Some o) n s =
    let r = read_line_at o.content o.at in
    if_known count (writes o.mode) (fails line WrongMode s) (line_taken line got_at i to o r n s) tt (taken_knows count line got_at i to o r n s)

read_knows : (count line got_at i to : ℕ) → Knows count (do_read line got_at i to)
read_knows count line got_at i to = step_known count (λ n s. reading line got_at i to (opened_at s i) n s) (λ n s. reading_knows count line got_at i to (opened_at s i) n s)

barrier_knows : (count line : ℕ) → Knows count (do_barrier line)
barrier_knows count line = step_known count (λ n s. action line s (λ u. Ask Barrier u (λ a. Done n u))) (λ n s. ask_known count line Barrier (λ u. u) (λ u a. Done n u) s tt (λ a. tt))

-- ---- calls

went_known : (count : ℕ) (a : Answer) (line n : ℕ) (hs : List Handed) (s : State) → AsksKnown count (went a line hs n s)
went_known count Absent line n hs s = tt
went_known count TooLong line n hs s = tt
went_known count Went line n hs s = tt
went_known count (Val v) line n hs s = tt
went_known count (Bytes b) line n hs s = tt

calling_known : (count line op n : ℕ) (hs : List Handed) (args : List CallArg) (s : State) → op < count → AsksKnown count (calling line op hs args n s)
calling_known count line op n hs args s lt =
    ask_known count line (Call op line args) numbered (λ u a. went a line hs n (numbered u)) s lt (λ a. went_known count a line n hs (numbered (counted s)))

call_knows : (count : ℕ) (t : Given) (line op : ℕ) (hs : List Handed) → op < count → Knows count (do_call t line op (params_at t.ops op) hs)
call_knows count t line op hs lt =
    step_known count (λ n s. passed_valued line (params_at t.ops op) hs s (calls t line op (params_at t.ops op) hs n))
    (λ n s. passed_known count (params_at t.ops op) hs line (calls t line op (params_at t.ops op) hs n) s
    (λ args u. unless_known count (call_fault t u (params_at t.ops op) args) line u (calling line op hs args n (noting_all args u)) (calling_known count line op n hs args (noting_all args u) lt)))

-- a name's place is one of an operation
next_place : (o : Option ℕ) (op : ℕ) (count : ℕ) → ((i : ℕ) → o ≡ Some i → i < count) → option_map suc o ≡ Some op → op < suc count
next_place None op count k e = absurd cc
next_place (Some i) op count k e = let is : suc i ≡ op = cc in let lt = k i refl in omega arith

place_by : (b : Bool) (o : Option ℕ) (op count : ℕ) → ((i : ℕ) → o ≡ Some i → i < count) → (if b then Some 0 else option_map suc o) ≡ Some op → op < suc count
place_by true o op count k e = let is : 0 ≡ op = cc in omega arith
place_by false o op count k e = next_place o op count k e

place_within : (ops : List Signature) (name : List ℕ) (op : ℕ) → op_place ops name ≡ Some op → op < length ops
place_within [] name op e = absurd cc
place_within (o ∷ ops) name op e = place_by (bytes_eq o.name name) (op_place ops name) op (length ops) (λ i is. place_within ops name i is) e

call_at_knows : (t : Given) (line : ℕ) (op : Option ℕ) (args : List Passed) → ((i : ℕ) → op ≡ Some i → i < length t.ops) → Knows (length t.ops) (do_call_at t line op args)
call_at_knows t line None args k n s = tt
call_at_knows t line (Some op) args k n s =
    call_knows (length t.ops) t line op (all_handed (names_of t) (params_at t.ops op) args) (k op refl) n s

-- ---- tests and loops

branch_knows : (count : ℕ) (b : Bool) (go other : Meaning) → Knows count go → Knows count other → Knows count (branch b go other)
branch_knows count true go other p k n s = k n s
branch_knows count false go other p k n s = p n s

tested_knows : (count line : ℕ) (t : Placed) (go : Bool → Meaning) → ((b : Bool) → Knows count (go b)) → Knows count (tested line t go)
tested_knows count line t go k = value_knows count line t (λ n v u. go (is_zero (int_of v)) n u) (λ n v s. k (is_zero (int_of v)) n s)

and_then_knows : (count : ℕ) (body go : Meaning) → Knows count body → Knows count go → Knows count (λ n s. then_do (body n s) go)
and_then_knows count body go p k n s = then_known count (body n s) go (p n s) k

turns_know : (count k line : ℕ) (t : Placed) (body : Meaning) → Knows count body → Knows count (turns k line t body)
unfolding turns
turns_know count zero line t body p n s = tt
turns_know count (suc k) line t body p n s =
    tested_knows count line t (λ ends. branch ends (λ n s. then_do (body n s) (turns k line t body)) ended)
    (λ b. branch_knows count b (λ n s. then_do (body n s) (turns k line t body)) ended (and_then_knows count body (turns k line t body) p (turns_know count k line t body p)) (λ n s. tt)) n s

setting_knows : (count : ℕ) (t : Given) (a : Setting) → Knows count (run_setting t a)
setting_knows count t a n s = set_knows count a.to.line (variable t a.to.text) (placed (names_of t) a.value) n s

maybe_knows : (count : ℕ) (t : Given) (o : Option Setting) → Knows count (run_maybe t o)
maybe_knows count t None n s = tt
maybe_knows count t (Some a) n s = setting_knows count t a n s

while_knows : (count line : ℕ) (t : Placed) (body : Meaning) → Knows count body → Knows count (λ n s. turns (suc n) line t body n s)
while_knows count line t body p n s = turns_know count (suc n) line t body p n s

mutual
  run_knows : (t : Given) (c : Code) → Knows (length t.ops) (run t c)
  run_knows t (empty line) n s = step_known (length t.ops) ended (λ n s. tt) n s
  run_knows t (block line body) n s = run_all_knows t body n s
  run_knows t (assign a) n s = setting_knows (length t.ops) t a n s
  run_knows t (choose line test then_c else_c) n s =
      tested_knows (length t.ops) line (placed (names_of t) test) (λ b. branch b (run_all t then_c) (run_else t else_c))
      (λ b. branch_knows (length t.ops) b (run_all t then_c) (run_else t else_c) (run_all_knows t then_c) (run_else_knows t else_c)) n s
  run_knows t (while line test body) n s = while_knows (length t.ops) line (placed (names_of t) test) (run_all t body) (run_all_knows t body) n s
  run_knows t (for line first test last body) n s =
      and_then_knows (length t.ops) (run_maybe t first) (λ n s. turns (suc n) line (placed (names_of t) (test_or_true test line)) (λ n s. then_do (run_all t body n s) (run_maybe t last)) n s) (maybe_knows (length t.ops) t first)
      (while_knows (length t.ops) line (placed (names_of t) (test_or_true test line)) (λ n s. then_do (run_all t body n s) (run_maybe t last)) (and_then_knows (length t.ops) (run_all t body) (run_maybe t last) (run_all_knows t body) (maybe_knows (length t.ops) t last))) n s
  run_knows t (open_file line to path m) n s = open_knows (length t.ops) t line (variable t to.text) (placed (names_of t) path) m n s
  run_knows t (read_line line got_at handle to) n s = read_knows (length t.ops) line (variable t got_at.text) (variable t handle.text) (variable t to.text) n s
  run_knows t (close_file line handle) n s = close_knows (length t.ops) line (variable t handle.text) n s
  run_knows t (barrier line) n s = barrier_knows (length t.ops) line n s
  run_knows t (print line format args) n s = print_knows (length t.ops) line format.text (all_placed (names_of t) args) n s
  run_knows t (print_file line handle format args) n s = print_file_knows (length t.ops) line (variable t handle.text) format.text (all_placed (names_of t) args) n s
  run_knows t (print_str line to format args) n s = print_str_knows (length t.ops) line (variable t to.text) format.text (all_placed (names_of t) args) n s
  run_knows t (call op args) n s = call_at_knows t op.line (op_place t.ops op.text) args (λ i is. place_within t.ops op.text i is) n s

  run_all_knows : (t : Given) (cs : Codes) → Knows (length t.ops) (run_all t cs)
  run_all_knows t none n s = tt
  run_all_knows t (one c cs) n s = and_then_knows (length t.ops) (run t c) (run_all t cs) (run_knows t c) (run_all_knows t cs) n s

  run_else_knows : (t : Given) (cs : MaybeCodes) → Knows (length t.ops) (run_else t cs)
  run_else_knows t without n s = tt
  run_else_knows t (otherwise body) n s = run_all_knows t body n s

-- ---- a whole program

first_knows : (count : ℕ) (t : Given) (settings : List Setting) → Knows count (run_first t settings)
first_knows count t [] n s = tt
first_knows count t (a ∷ more) n s = and_then_knows count (run_setting t a) (run_first t more) (setting_knows count t a) (first_knows count t more) n s

settled_known : (count : ℕ) (vars : List Slot) (line i : ℕ) (s : State) → AsksKnown count (settled line i vars s)
settled_known count [] line i s = tt
settled_known count (Held v ∷ vars) line i s = settled_known count vars line (suc i) s
settled_known count (Due n k ∷ vars) line i s = used_known count line i n k (λ v u. settled line (suc i) vars u) s (λ v u. settled_known count vars line (suc i) u)

leaving_known : (count : ℕ) (b : Bool) (line : ℕ) (s : State) → AsksKnown count (leaving line b s)
leaving_known count true line s = tt
leaving_known count false line s = settled_known count s.vars line 0 s

finish_knows : (count line : ℕ) → Knows count (finish line)
finish_knows count line = step_known count (λ n s. leaving line (list_any is_some s.handles) s) (λ n s. leaving_known count (list_any is_some s.handles) line s)

pub dialogue_known : (t : Given) (fuel : ℕ) → AsksKnown (length t.ops) (dialogue t fuel)
dialogue_known t fuel =
    let count = length t.ops in
    and_then_knows count (run_first t t.program.first) (λ n s. then_do (step ended n s) (λ n s. then_do (run_all t t.program.body n s) (finish t.program.off))) (first_knows count t t.program.first)
    (and_then_knows count (step ended) (λ n s. then_do (run_all t t.program.body n s) (finish t.program.off)) (step_known count ended (λ n s. tt))
    (and_then_knows count (run_all t t.program.body) (finish t.program.off) (run_all_knows t t.program.body) (finish_knows count t.program.off))) fuel (start t)
