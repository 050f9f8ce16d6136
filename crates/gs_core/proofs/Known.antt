-- Each call that a program asks is of one of its operations.
use Rattle.std.proofs.Common.{◌≡◌, ℕ, zero, suc, ◌+◌, ◌<◌, ◌++◌, ℤ, pos, ◌-ℤ◌, Bool, true, false, not, List, [], ◌∷◌, length, Option, Some, None, Result, Ok, Err, slice_get, refl, arith, if◌then◌else◌, nat_lt, nat_le}
use Rattle.std.specs.Prelude.{is_some, option_map}
use Rattle.std.specs.Bool.{⊤}
use Rattle.std.specs.List.{list_any}
use Rattle.std.specs.Str.{bytes_eq}
use Rattle.gs_idl.specs.Interface.{Param, Signature, op_place, params_at}
use Rattle.gs_tree.specs.declared.tree.Mode.{Mode}
use Rattle.gs_tree.specs.declared.tree.Mode.TheVariants.{R, W, A}
use Rattle.gs_tree.specs.Program.{Setting, Passed, Code, empty, block, set as assign, choose, while, for, open_file, read_line, close_file, barrier, print, print_file, print_str, call, Codes, none, one, MaybeCodes, without, otherwise}
use Rattle.gs_types.specs.declared.value.Value.{Value}
use Rattle.gs_types.specs.declared.value.Value.TheVariants.{Int, Str}
use Rattle.gs_types.specs.declared.limits.TheConstants.{ACTION_LIMIT, FILE_LIMIT, STRING_LIMIT, PRINTED_LIMIT}
use Rattle.gs_types.specs.declared.settings.FaultKind.{FaultKind}
use Rattle.gs_types.specs.declared.settings.FaultKind.TheVariants.{TooManyActions, StringTooLong, TextTooLong, FileTooLong, WrongMode}
use Rattle.gs_talk.specs.declared.slot.Slot.{Slot}
use Rattle.gs_talk.specs.declared.slot.Slot.TheVariants.{Held, Due}
use Rattle.gs_talk.specs.declared.question.CallArg.{CallArg}
use Rattle.gs_talk.specs.declared.question.Question.{Question}
use Rattle.gs_talk.specs.declared.question.Question.TheVariants.{Call, Use, OpenFile, CloseFile, Barrier, End, Fault, FuelOut}
use Rattle.gs_talk.specs.declared.question.Answer.{Answer}
use Rattle.gs_talk.specs.declared.question.Answer.TheVariants.{Went, Val, Bytes, Absent, TooLong}
use Rattle.gs_talk.specs.Terms.{Placed, number, text, at, converted, compared, negated, inverted, both, placed, all_placed}
use Rattle.gs_talk.specs.Values.{is_zero, fit, truth, apply, decided, atoi_of, order_of, int_of, text_of}
use Rattle.gs_talk.specs.Texts.{formatted, Taken, no_more, got, read_line_at}
use Rattle.gs_talk.specs.Talk.{Given, names_of, State, Opened, Dialogue, Done, Ask, Stop, Meaning, then_do, step, fails, unless, action, counted, numbered, taken, set_to, used, looked, fitted, or_else, with_text, with_handle, appended, closed, valued, all_valued, passed_valued, printing, printing_str, opened_at, open_fault, absent, opened, asks_to_open, opening, do_open, closing_by, closing, do_close, writes, writing, do_print_file, line_taken, reading, do_read, do_barrier, Handed, by_value, into, all_handed, arg_of, out_of, call_fault, went, calling, do_call, do_call_at, tested, branch, ended, turns, test_or_true, run_setting, run_maybe, variable, run, run_all, run_else, run_first, settled, leaving, finish, start, dialogue}
use Rattle.gs_talk_laws.proofs.Fuel.{Then, ThenAll, ThenArgs}
use Rattle.gs_talk_laws.proofs.Statements.{noting_one, opens, noting_all, calls}

-- a call is of one of these operations
abbrev pub IsKnownCall : List Signature → Question → Type 0
IsKnownCall ops (Call op line args) = op < length ops
IsKnownCall ops (Use n place) = ⊤
IsKnownCall ops (OpenFile name mode line) = ⊤
IsKnownCall ops (CloseFile name bytes) = ⊤
IsKnownCall ops Barrier = ⊤
IsKnownCall ops End = ⊤
IsKnownCall ops (Fault line kind) = ⊤
IsKnownCall ops FuelOut = ⊤

-- and so is each call that is asked
abbrev pub Known : List Signature → Dialogue → Type 0
Known ops (Done n s) = ⊤
Known ops (Stop q s) = ⊤
Known ops (Ask q s next) = IsKnownCall ops q × ((a : Answer) → Known ops (next a))

abbrev Keeps : List Signature → Meaning → Type 0
Keeps ops m = (n : ℕ) (s : State) → Known ops (m n s)

abbrev KeepsThen : List Signature → Then → Type 0
KeepsThen ops go = (v : Value) (s : State) → Known ops (go v s)

abbrev KeepsAll : List Signature → ThenAll → Type 0
KeepsAll ops go = (vs : List Value) (s : State) → Known ops (go vs s)

abbrev KeepsArgs : List Signature → ThenArgs → Type 0
KeepsArgs ops go = (args : List CallArg) (s : State) → Known ops (go args s)

-- ---- one after the other

then_known : (ops : List Signature) (d : Dialogue) (go : Meaning) → Known ops d → Keeps ops go
    → Known ops (then_do d go)
then_known ops (Done n s) go p k = k n s
then_known ops (Stop q s) go p k = tt
then_known ops (Ask q s next) go p k = (p.0, λ a. then_known ops (next a) go (p.1 a) k)

step_known : (ops : List Signature) (m : Meaning) → Keeps ops m → Keeps ops (step m)
step_known ops m k zero s = tt
step_known ops m k (suc n) s = k n s

if_known : (ops : List Signature) (b : Bool) (d other : Dialogue) → Known ops d → Known ops other
    → Known ops (if b then d else other)
if_known ops true d other p k = p
if_known ops false d other p k = k

unless_known : (ops : List Signature) (o : Option FaultKind) (line : ℕ) (s : State) (d : Dialogue)
    → Known ops d → Known ops (unless o line s d)
unless_known ops None line s d p = p
unless_known ops (Some kind) line s d p = tt

ask_known : (ops : List Signature) (line : ℕ) (q : Question) (to : State → State)
    (next : State → Answer → Dialogue) (s : State) → IsKnownCall ops q
    → ((a : Answer) → Known ops (next (counted s) a))
    → Known ops (action line s (λ u. Ask q (to u) (next u)))
ask_known ops line q to next s known k = if_known ops (nat_lt s.actions ACTION_LIMIT)
    (Ask q (to (counted s)) (next (counted s))) (fails line TooManyActions s) (known, k) tt

used_known : (ops : List Signature) (line i n place : ℕ) (go : Then) (s : State)
    → KeepsThen ops go → Known ops (used line i n place s go)
used_known ops line i n place go s k =
    ask_known ops line (Use n place) (λ u. u) (λ u a. go (taken a) (set_to i (taken a) u)) s tt
    (λ a. k (taken a) (set_to i (taken a) (counted s)))

-- ---- values

looked_known : (ops : List Signature) (o : Option Slot) (line i : ℕ) (go : Then) (s : State)
    → KeepsThen ops go → Known ops (looked line i o s go)
looked_known ops None line i go s k = k (Int (pos 0)) s
looked_known ops (Some (Held v)) line i go s k = k v s
looked_known ops (Some (Due n place)) line i go s k = used_known ops line i n place go s k

fitted_known : (ops : List Signature) (r : Result ℤ FaultKind) (line : ℕ) (go : Then) (s : State)
    → KeepsThen ops go → Known ops (fitted line r s go)
fitted_known ops (Ok v) line go s k = k (Int v) s
fitted_known ops (Err e) line go s k = tt

or_else_known : (ops : List Signature) (o : Option ℤ) (go : ℤ → Dialogue) (d : Dialogue)
    → ((v : ℤ) → Known ops (go v)) → Known ops d → Known ops (or_else o go d)
or_else_known ops (Some v) go d p k = p v
or_else_known ops None go d p k = k

valued_known : (ops : List Signature) (t : Placed) (line : ℕ) (go : Then) (s : State)
    → KeepsThen ops go → Known ops (valued line t s go)
valued_known ops (number v) line go s k = k (Int v) s
valued_known ops (text b) line go s k = k (Str b) s
valued_known ops (at i) line go s k = looked_known ops (slice_get s.vars i) line i go s k
valued_known ops (converted a) line go s k =
    valued_known ops a line (λ x u. fitted line (atoi_of (text_of x)) u go) s
    (λ x u. fitted_known ops (atoi_of (text_of x)) line go u k)
valued_known ops (compared a b) line go s k =
    valued_known ops a line
    (λ x u. valued line b u (λ y v. go (Int (order_of (text_of x) (text_of y))) v)) s
    (λ x u. valued_known ops b line (λ y v. go (Int (order_of (text_of x) (text_of y))) v) u
    (λ y v. k (Int (order_of (text_of x) (text_of y))) v))
valued_known ops (negated a) line go s k =
    valued_known ops a line (λ x u. fitted line (fit (pos 0 -ℤ int_of x)) u go) s
    (λ x u. fitted_known ops (fit (pos 0 -ℤ int_of x)) line go u k)
valued_known ops (inverted a) line go s k =
    valued_known ops a line (λ x u. go (Int (truth (is_zero (int_of x)))) u) s
    (λ x u. k (Int (truth (is_zero (int_of x)))) u)
valued_known ops (both o a b) line go s k =
    valued_known ops a line (λ x u. or_else (decided o (int_of x)) (λ v. go (Int v) u)
    (valued line b u (λ y v. fitted line (apply o (int_of x) (int_of y)) v go))) s
    (λ x u. or_else_known ops (decided o (int_of x)) (λ v. go (Int v) u)
    (valued line b u (λ y v. fitted line (apply o (int_of x) (int_of y)) v go)) (λ v. k (Int v) u)
    (valued_known ops b line (λ y v. fitted line (apply o (int_of x) (int_of y)) v go) u
    (λ y v. fitted_known ops (apply o (int_of x) (int_of y)) line go v k)))

all_known : (ops : List Signature) (ts : List Placed) (line : ℕ) (go : ThenAll) (s : State)
    → KeepsAll ops go → Known ops (all_valued line ts s go)
all_known ops [] line go s k = k [] s
all_known ops (t ∷ ts) line go s k =
    valued_known ops t line (λ v u. all_valued line ts u (λ vs w. go (v ∷ vs) w)) s
    (λ v u. all_known ops ts line (λ vs w. go (v ∷ vs) w) u (λ vs w. k (v ∷ vs) w))

passed_known : (ops : List Signature) (ps : List Param) (hs : List Handed) (line : ℕ)
    (go : ThenArgs) (s : State) → KeepsArgs ops go → Known ops (passed_valued line ps hs s go)
passed_known ops [] [] line go s k = k [] s
passed_known ops [] (x ∷ hs) line go s k = k [] s
passed_known ops (p ∷ ps) [] line go s k = k [] s
passed_known ops (p ∷ ps) (into i ∷ hs) line go s k =
    passed_known ops ps hs line (λ args u. go (out_of p.kind ∷ args) u) s
    (λ args u. k (out_of p.kind ∷ args) u)
passed_known ops (p ∷ ps) (by_value t ∷ hs) line go s k =
    valued_known ops t line
    (λ v u. passed_valued line ps hs u (λ args w. go (arg_of p.kind v ∷ args) w)) s
    (λ v u. passed_known ops ps hs line (λ args w. go (arg_of p.kind v ∷ args) w) u
    (λ args w. k (arg_of p.kind v ∷ args) w))

value_keeps : (ops : List Signature) (line : ℕ) (t : Placed) (go : ℕ → Then)
    → ((n : ℕ) → KeepsThen ops (go n)) → Keeps ops (step (λ n s. valued line t s (go n)))
value_keeps ops line t go k = step_known ops (λ n s. valued line t s (go n))
    (λ n s. valued_known ops t line (go n) s (k n))

values_keep : (ops : List Signature) (line : ℕ) (ts : List Placed) (go : ℕ → ThenAll)
    → ((n : ℕ) → KeepsAll ops (go n)) → Keeps ops (step (λ n s. all_valued line ts s (go n)))
values_keep ops line ts go k = step_known ops (λ n s. all_valued line ts s (go n))
    (λ n s. all_known ops ts line (go n) s (k n))

-- ---- assignments and prints

printing_keeps : (ops : List Signature) (line : ℕ) (out : List ℕ) → Keeps ops (printing line out)
printing_keeps ops line out n s = if_known ops (nat_le (length (s.text ++ out)) PRINTED_LIMIT)
    (Done n (with_text (s.text ++ out) s)) (fails line TextTooLong s) tt tt

printing_str_keeps : (ops : List Signature) (line to : ℕ) (out : List ℕ)
    → Keeps ops (printing_str line to out)
printing_str_keeps ops line to out n s = if_known ops (nat_le (length out) STRING_LIMIT)
    (Done n (set_to to (Str out) s)) (fails line StringTooLong s) tt tt

-- ---- files

absent_keeps : (ops : List Signature) (line to : ℕ) (name : List ℕ) (m : Mode)
    → Keeps ops (absent line to name m)
absent_keeps ops line to name R n s = tt
absent_keeps ops line to name W n s = tt
absent_keeps ops line to name A n s = tt

opened_keeps : (ops : List Signature) (a : Answer) (line to : ℕ) (name : List ℕ) (m : Mode)
    → Keeps ops (opened a line to name m)
opened_keeps ops (Bytes bytes) line to name m n s = tt
opened_keeps ops Absent line to name m n s = absent_keeps ops line to name m n s
opened_keeps ops TooLong line to name m n s = tt
opened_keeps ops Went line to name m n s = tt
opened_keeps ops (Val v) line to name m n s = tt

asks_to_open_keeps : (ops : List Signature) (line to : ℕ) (name : List ℕ) (m : Mode)
    → Keeps ops (asks_to_open line to name m)
asks_to_open_keeps ops line to name m n s =
    ask_known ops line (OpenFile name m line) (λ u. u) (λ u a. opened a line to name m n u) s tt
    (λ a. opened_keeps ops a line to name m n (counted s))

opening_keeps : (ops : List Signature) (line to : ℕ) (name : List ℕ) (m : Mode)
    → Keeps ops (opening line to name m)
opening_keeps ops line to name R n s = asks_to_open_keeps ops line to name R n s
opening_keeps ops line to name W n s = tt
opening_keeps ops line to name A n s = asks_to_open_keeps ops line to name A n s

open_keeps : (ops : List Signature) (t : Given) (line to : ℕ) (path : Placed) (m : Mode)
    → Keeps ops (do_open t line to path m)
open_keeps ops t line to path m = value_keeps ops line path (opens t line to m)
    (λ n v s. unless_known ops (open_fault t s to (text_of v) m) line s
    (opening line to (text_of v) m n (noting_one v s))
    (opening_keeps ops line to (text_of v) m n (noting_one v s)))

written_keeps : (ops : List Signature) (line i : ℕ) (o : Opened)
    → Keeps ops (λ n s. action line s (λ u. Ask (CloseFile o.name o.content) (closed i u)
    (λ a. Done n (closed i u))))
written_keeps ops line i o n s = ask_known ops line (CloseFile o.name o.content) (closed i)
    (λ u a. Done n (closed i u)) s tt (λ a. tt)

closing_by_keeps : (ops : List Signature) (m : Mode) (line i : ℕ) (o : Opened)
    → Keeps ops (closing_by m line i o)
closing_by_keeps ops R line i o n s = tt
closing_by_keeps ops W line i o n s = written_keeps ops line i o n s
closing_by_keeps ops A line i o n s = written_keeps ops line i o n s

closing_keeps : (ops : List Signature) (line i : ℕ) (o : Option Opened)
    → Keeps ops (closing line i o)
closing_keeps ops line i None n s = tt
closing_keeps ops line i (Some o) n s = closing_by_keeps ops o.mode line i o n s

close_keeps : (ops : List Signature) (line i : ℕ) → Keeps ops (do_close line i)
close_keeps ops line i = step_known ops (λ n s. closing line i (opened_at s i) n s)
    (λ n s. closing_keeps ops line i (opened_at s i) n s)

writing_keeps : (ops : List Signature) (line i : ℕ) (out : List ℕ) (o : Option Opened)
    → Keeps ops (writing line i out o)
writing_keeps ops line i out None n s = tt
writing_keeps ops line i out (Some o) n s =
    let short = nat_le (length (o.content ++ out)) FILE_LIMIT in
    let u = with_handle i (Some (appended out o)) s in
    if_known ops (not (writes o.mode)) (fails line WrongMode s)
    (if short then Done n u else fails line FileTooLong s) tt
    (if_known ops short (Done n u) (fails line FileTooLong s) tt tt)

print_file_keeps : (ops : List Signature) (line i : ℕ) (format : List ℕ) (args : List Placed)
    → Keeps ops (do_print_file line i format args)
print_file_keeps ops line i format args =
    values_keep ops line args (λ n vs u. writing line i (formatted format vs) (opened_at u i) n u)
    (λ n vs s. writing_keeps ops line i (formatted format vs) (opened_at s i) n s)

taken_keeps : (ops : List Signature) (line got_at i to : ℕ) (o : Opened)
    (r : Result Taken FaultKind) → Keeps ops (line_taken line got_at i to o r)
taken_keeps ops line got_at i to o (Err fault) n s = tt
taken_keeps ops line got_at i to o (Ok no_more) n s = tt
taken_keeps ops line got_at i to o (Ok (got bytes next)) n s = tt

reading_keeps : (ops : List Signature) (line got_at i to : ℕ) (o : Option Opened)
    → Keeps ops (reading line got_at i to o)
reading_keeps ops line got_at i to None n s = tt
reading_keeps ops line got_at i to (Some o) n s =
    let r = read_line_at o.content o.at in
    if_known ops (writes o.mode) (fails line WrongMode s) (line_taken line got_at i to o r n s) tt
    (taken_keeps ops line got_at i to o r n s)

read_keeps : (ops : List Signature) (line got_at i to : ℕ) → Keeps ops (do_read line got_at i to)
read_keeps ops line got_at i to =
    step_known ops (λ n s. reading line got_at i to (opened_at s i) n s)
    (λ n s. reading_keeps ops line got_at i to (opened_at s i) n s)

barrier_keeps : (ops : List Signature) (line : ℕ) → Keeps ops (do_barrier line)
barrier_keeps ops line =
    step_known ops (λ n s. action line s (λ u. Ask Barrier u (λ a. Done n u)))
    (λ n s. ask_known ops line Barrier (λ u. u) (λ u a. Done n u) s tt (λ a. tt))

-- ---- calls

-- a place within the others, one further
place_next : (name : List ℕ) (os : List Signature) (m : Option ℕ) (op : ℕ)
    → ((k : ℕ) → m ≡ Some k → k < length os) → option_map suc m ≡ Some op → op < suc (length os)
place_next name os None op within is = absurd cc
place_next name os (Some k) op within is =
    let lt = within k refl in
    let same : suc k ≡ op = cc in omega (arith, lt, same)

place_first : (name : List ℕ) (os : List Signature) (b : Bool) (op : ℕ)
    → ((k : ℕ) → op_place os name ≡ Some k → k < length os)
    → (if b then Some 0 else option_map suc (op_place os name)) ≡ Some op → op < suc (length os)
place_first name os true op within is = let same : 0 ≡ op = cc in omega (arith, same)
place_first name os false op within is = place_next name os (op_place os name) op within is

-- the place of an operation is one of theirs
place_known : (ops : List Signature) (name : List ℕ) (op : ℕ) → op_place ops name ≡ Some op
    → op < length ops
place_known [] name op is = absurd cc
place_known (o ∷ os) name op is =
    place_first name os (bytes_eq o.name name) op (λ k at. place_known os name k at) is

went_known : (ops : List Signature) (a : Answer) (line n : ℕ) (hs : List Handed) (s : State)
    → Known ops (went a line hs n s)
went_known ops Absent line n hs s = tt
went_known ops TooLong line n hs s = tt
went_known ops Went line n hs s = tt
went_known ops (Val v) line n hs s = tt
went_known ops (Bytes b) line n hs s = tt

call_keeps : (t : Given) (line op : ℕ) (hs : List Handed) → op < length t.ops
    → Keeps t.ops (do_call t line op (params_at t.ops op) hs)
call_keeps t line op hs lt =
    step_known t.ops (λ n s. passed_valued line (params_at t.ops op) hs s
    (calls t line op (params_at t.ops op) hs n))
    (λ n s. passed_known t.ops (params_at t.ops op) hs line
    (calls t line op (params_at t.ops op) hs n) s
    (λ args u. unless_known t.ops (call_fault t u (params_at t.ops op) args) line u
    (calling line op hs args n (noting_all args u))
    (ask_known t.ops line (Call op line args) numbered (λ u a. went a line hs n (numbered u))
    (noting_all args u) lt
    (λ a. went_known t.ops a line n hs (numbered (counted (noting_all args u)))))))

call_at_keeps : (t : Given) (line : ℕ) (op : Option ℕ) (args : List Passed)
    → ((k : ℕ) → op ≡ Some k → k < length t.ops) → Keeps t.ops (do_call_at t line op args)
call_at_keeps t line None args lt n s = tt
call_at_keeps t line (Some op) args lt n s =
    call_keeps t line op (all_handed (names_of t) (params_at t.ops op) args) (lt op refl) n s

-- ---- tests and loops

branch_keeps : (ops : List Signature) (b : Bool) (go other : Meaning) → Keeps ops go
    → Keeps ops other → Keeps ops (branch b go other)
branch_keeps ops true go other p k n s = k n s
branch_keeps ops false go other p k n s = p n s

tested_keeps : (ops : List Signature) (line : ℕ) (t : Placed) (go : Bool → Meaning)
    → ((b : Bool) → Keeps ops (go b)) → Keeps ops (tested line t go)
tested_keeps ops line t go k = value_keeps ops line t (λ n v u. go (is_zero (int_of v)) n u)
    (λ n v s. k (is_zero (int_of v)) n s)

and_then_keeps : (ops : List Signature) (body go : Meaning) → Keeps ops body → Keeps ops go
    → Keeps ops (λ n s. then_do (body n s) go)
and_then_keeps ops body go p k n s = then_known ops (body n s) go (p n s) k

turns_keep : (ops : List Signature) (k line : ℕ) (t : Placed) (body : Meaning) → Keeps ops body
    → Keeps ops (turns k line t body)
unfolding turns
turns_keep ops zero line t body p n s = tt
turns_keep ops (suc k) line t body p n s =
    tested_keeps ops line t
    (λ ends. branch ends (λ n s. then_do (body n s) (turns k line t body)) ended)
    (λ b. branch_keeps ops b (λ n s. then_do (body n s) (turns k line t body)) ended
    (and_then_keeps ops body (turns k line t body) p (turns_keep ops k line t body p))
    (λ n s. tt)) n s

setting_keeps : (t : Given) (a : Setting) → Keeps t.ops (run_setting t a)
setting_keeps t a n s = value_keeps t.ops a.to.line (placed (names_of t) a.value)
    (λ n v u. Done n (set_to (variable t a.to.text) v u)) (λ n v u. tt) n s

maybe_keeps : (t : Given) (o : Option Setting) → Keeps t.ops (run_maybe t o)
maybe_keeps t None n s = tt
maybe_keeps t (Some a) n s = setting_keeps t a n s

while_keeps : (ops : List Signature) (line : ℕ) (t : Placed) (body : Meaning) → Keeps ops body
    → Keeps ops (λ n s. turns (suc n) line t body n s)
while_keeps ops line t body p n s = turns_keep ops (suc n) line t body p n s

mutual
  run_keeps : (t : Given) (c : Code) → Keeps t.ops (run t c)
  run_keeps t (empty line) n s = step_known t.ops ended (λ n s. tt) n s
  run_keeps t (block line body) n s = run_all_keeps t body n s
  run_keeps t (assign a) n s = setting_keeps t a n s
  run_keeps t (choose line test then_c else_c) n s =
      tested_keeps t.ops line (placed (names_of t) test)
      (λ b. branch b (run_all t then_c) (run_else t else_c))
      (λ b. branch_keeps t.ops b (run_all t then_c) (run_else t else_c) (run_all_keeps t then_c)
      (run_else_keeps t else_c)) n s
  run_keeps t (while line test body) n s =
      while_keeps t.ops line (placed (names_of t) test) (run_all t body) (run_all_keeps t body) n s
  run_keeps t (for line first test last body) n s =
      and_then_keeps t.ops (run_maybe t first)
      (λ n s. turns (suc n) line (placed (names_of t) (test_or_true test line))
      (λ n s. then_do (run_all t body n s) (run_maybe t last)) n s) (maybe_keeps t first)
      (while_keeps t.ops line (placed (names_of t) (test_or_true test line))
      (λ n s. then_do (run_all t body n s) (run_maybe t last))
      (and_then_keeps t.ops (run_all t body) (run_maybe t last) (run_all_keeps t body)
      (maybe_keeps t last))) n s
  run_keeps t (open_file line to path m) n s =
      open_keeps t.ops t line (variable t to.text) (placed (names_of t) path) m n s
  run_keeps t (read_line line got_at handle to) n s =
      read_keeps t.ops line (variable t got_at.text) (variable t handle.text) (variable t to.text)
      n s
  run_keeps t (close_file line handle) n s = close_keeps t.ops line (variable t handle.text) n s
  run_keeps t (barrier line) n s = barrier_keeps t.ops line n s
  run_keeps t (print line format args) n s =
      values_keep t.ops line (all_placed (names_of t) args)
      (λ n vs u. printing line (formatted format.text vs) n u)
      (λ n vs u. printing_keeps t.ops line (formatted format.text vs) n u) n s
  run_keeps t (print_file line handle format args) n s =
      print_file_keeps t.ops line (variable t handle.text) format.text
      (all_placed (names_of t) args) n s
  run_keeps t (print_str line to format args) n s =
      values_keep t.ops line (all_placed (names_of t) args)
      (λ n vs u. printing_str line (variable t to.text) (formatted format.text vs) n u)
      (λ n vs u. printing_str_keeps t.ops line (variable t to.text) (formatted format.text vs) n u)
      n s
  run_keeps t (call op args) n s =
      call_at_keeps t op.line (op_place t.ops op.text) args (place_known t.ops op.text) n s

  run_all_keeps : (t : Given) (cs : Codes) → Keeps t.ops (run_all t cs)
  run_all_keeps t none n s = tt
  run_all_keeps t (one c cs) n s =
      and_then_keeps t.ops (run t c) (run_all t cs) (run_keeps t c) (run_all_keeps t cs) n s

  run_else_keeps : (t : Given) (cs : MaybeCodes) → Keeps t.ops (run_else t cs)
  run_else_keeps t without n s = tt
  run_else_keeps t (otherwise body) n s = run_all_keeps t body n s

-- ---- a whole program

first_keeps : (t : Given) (settings : List Setting) → Keeps t.ops (run_first t settings)
first_keeps t [] n s = tt
first_keeps t (a ∷ more) n s =
    and_then_keeps t.ops (run_setting t a) (run_first t more) (setting_keeps t a)
    (first_keeps t more) n s

settled_known : (ops : List Signature) (vars : List Slot) (line i : ℕ) (s : State)
    → Known ops (settled line i vars s)
settled_known ops [] line i s = tt
settled_known ops (Held v ∷ vars) line i s = settled_known ops vars line (suc i) s
settled_known ops (Due n k ∷ vars) line i s =
    used_known ops line i n k (λ v u. settled line (suc i) vars u) s
    (λ v u. settled_known ops vars line (suc i) u)

leaving_known : (ops : List Signature) (b : Bool) (line : ℕ) (s : State)
    → Known ops (leaving line b s)
leaving_known ops true line s = tt
leaving_known ops false line s = settled_known ops s.vars line 0 s

pub dialogue_known : (t : Given) (fuel : ℕ) → Known t.ops (dialogue t fuel)
dialogue_known t fuel =
    and_then_keeps t.ops (run_first t t.program.first)
    (λ n s. then_do (step ended n s)
    (λ n s. then_do (run_all t t.program.body n s) (finish t.program.off)))
    (first_keeps t t.program.first)
    (and_then_keeps t.ops (step ended)
    (λ n s. then_do (run_all t t.program.body n s) (finish t.program.off))
    (step_known t.ops ended (λ n s. tt))
    (and_then_keeps t.ops (run_all t t.program.body) (finish t.program.off)
    (run_all_keeps t t.program.body)
    (step_known t.ops (λ n s. leaving t.program.off (list_any is_some s.handles) s)
    (λ n s. leaving_known t.ops (list_any is_some s.handles) t.program.off s))))
    fuel (start t)
