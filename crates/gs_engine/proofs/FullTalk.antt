-- A program that passed the checks passes something at each place of each operation that it calls.
use Rattle.std.proofs.Common.{◌≡◌, ◌++◌, ℕ, zero, suc, ℤ, pos, ◌-ℤ◌, Bool, true, false, not, refl, ap, ◌∙◌, List, [], ◌∷◌, length, Result, Ok, Err, Option, Some, None, arith, nat_lt, nat_le, if◌then◌else◌}
use Rattle.std.specs.Prelude.{is_some, slice_get}
use Rattle.std.specs.Bool.{⊤}
use Rattle.std.specs.List.{list_any}
use Rattle.gs_idl.specs.Interface.{Param, Signature, op_place, params_at}
use Rattle.gs_tree.specs.declared.tree.Mode.{Mode}
use Rattle.gs_tree.specs.declared.tree.Mode.TheVariants.{R, W, A}
use Rattle.gs_tree.specs.Program.{Setting, Passed, Code, empty, block, set as assign, choose, while, for, open_file, read_line, close_file, barrier, print, print_file, print_str, call, Codes, none, one, MaybeCodes, without, otherwise}
use Rattle.gs_check.specs.Faults.{Vars}
use Rattle.gs_check.specs.Passes.{PassedAre, CodePasses, CodesPass, ElsePasses}
use Rattle.gs_types.specs.declared.value.Value.{Value}
use Rattle.gs_types.specs.declared.value.Value.TheVariants.{Int, Str}
use Rattle.gs_types.specs.declared.limits.TheConstants.{ACTION_LIMIT, FILE_LIMIT, STRING_LIMIT, PRINTED_LIMIT}
use Rattle.gs_types.specs.declared.settings.FaultKind.{FaultKind}
use Rattle.gs_types.specs.declared.settings.FaultKind.TheVariants.{TooManyActions, StringTooLong, TextTooLong, FileTooLong, WrongMode}
use Rattle.gs_talk.specs.declared.slot.Slot.{Slot}
use Rattle.gs_talk.specs.declared.slot.Slot.TheVariants.{Held, Due}
use Rattle.gs_talk.specs.declared.question.CallArg.{CallArg}
use Rattle.gs_talk.specs.declared.question.Question.{Question}
use Rattle.gs_talk.specs.declared.question.Question.TheVariants.{Call, Use, OpenFile, CloseFile, Barrier, End, Fault, FuelOut}
use Rattle.gs_talk.specs.declared.question.Answer.{Answer}
use Rattle.gs_talk.specs.declared.question.Answer.TheVariants.{Went, Val, Bytes, Absent, TooLong}
use Rattle.gs_talk.specs.Terms.{Placed, number, text, at, converted, compared, negated, inverted, both, placed, all_placed}
use Rattle.gs_talk.specs.Values.{is_zero, fit, truth, apply, decided, atoi_of, order_of, int_of, text_of}
use Rattle.gs_talk.specs.Texts.{formatted, Taken, no_more, got, read_line_at}
use Rattle.gs_talk.specs.Talk.{Given, names_of, State, Opened, Dialogue, Done, Ask, Stop, Meaning, then_do, fails, unless, step, counted, action, taken, set_to, used, looked, fitted, or_else, valued, all_valued, with_text, with_handle, appended, closed, do_set, printing, do_print, printing_str, do_print_str, opened_at, open_fault, absent, opened, asks_to_open, opening, do_open, closing_by, closing, writes, writing, line_taken, reading, Handed, by_value, into, all_handed, arg_of, out_of, passed_valued, numbered, went, call_fault, calling, do_call, do_call_at, tested, branch, ended, turns, test_or_true, run_setting, run_maybe, variable, run, run_all, run_else, run_first, settled, leaving, finish, start, dialogue}
use Rattle.gs_talk_laws.proofs.Fuel.{Then, ThenAll, ThenArgs}
use Rattle.gs_talk_laws.proofs.Statements.{noting_one, opens, noting_all, calls}

-- a call passes something at each place of its operation
abbrev pub IsFullIn : List Signature → Question → Type 0
IsFullIn ops (Call op line args) = length args ≡ length (params_at ops op)
IsFullIn ops (Use n place) = ⊤
IsFullIn ops (OpenFile name mode line) = ⊤
IsFullIn ops (CloseFile name bytes) = ⊤
IsFullIn ops Barrier = ⊤
IsFullIn ops End = ⊤
IsFullIn ops (Fault line kind) = ⊤
IsFullIn ops FuelOut = ⊤

-- each call of a dialogue does
abbrev pub Full : List Signature → Dialogue → Type 0
Full ops (Done n s) = ⊤
Full ops (Stop q s) = ⊤
Full ops (Ask q s next) = IsFullIn ops q × ((a : Answer) → Full ops (next a))

abbrev Fills : List Signature → Meaning → Type 0
Fills ops m = (n : ℕ) (s : State) → Full ops (m n s)

abbrev FillsThen : List Signature → Then → Type 0
FillsThen ops go = (v : Value) (s : State) → Full ops (go v s)

abbrev FillsAll : List Signature → ThenAll → Type 0
FillsAll ops go = (vs : List Value) (s : State) → Full ops (go vs s)

then_full : (ops : List Signature) (d : Dialogue) (go : Meaning) → Full ops d → Fills ops go
    → Full ops (then_do d go)
then_full ops (Done n s) go p k = k n s
then_full ops (Stop q s) go p k = tt
then_full ops (Ask q s next) go p k = (p.0, λ a. then_full ops (next a) go (p.1 a) k)

step_full : (ops : List Signature) (m : Meaning) → Fills ops m → Fills ops (step m)
step_full ops m k zero s = tt
step_full ops m k (suc n) s = k n s

if_full : (ops : List Signature) (b : Bool) (d other : Dialogue) → Full ops d → Full ops other
    → Full ops (if b then d else other)
if_full ops true d other p k = p
if_full ops false d other p k = k

unless_full : (ops : List Signature) (o : Option FaultKind) (line : ℕ) (s : State) (d : Dialogue)
    → Full ops d → Full ops (unless o line s d)
unless_full ops None line s d p = p
unless_full ops (Some fault) line s d p = tt

ask_full : (ops : List Signature) (line : ℕ) (q : Question) (to : State → State)
    (next : State → Answer → Dialogue) (s : State) → IsFullIn ops q
    → ((a : Answer) → Full ops (next (counted s) a))
    → Full ops (action line s (λ u. Ask q (to u) (next u)))
ask_full ops line q to next s is k = if_full ops (nat_lt s.actions ACTION_LIMIT)
    (Ask q (to (counted s)) (next (counted s))) (fails line TooManyActions s) (is, k) tt

-- ---- values

used_full : (ops : List Signature) (line i n place : ℕ) (go : Then) (s : State)
    → FillsThen ops go → Full ops (used line i n place s go)
used_full ops line i n place go s k = ask_full ops line (Use n place) (λ u. u)
    (λ u a. go (taken a) (set_to i (taken a) u)) s tt
    (λ a. k (taken a) (set_to i (taken a) (counted s)))

looked_full : (ops : List Signature) (o : Option Slot) (line i : ℕ) (go : Then) (s : State)
    → FillsThen ops go → Full ops (looked line i o s go)
looked_full ops None line i go s k = k _ s
looked_full ops (Some (Held v)) line i go s k = k v s
looked_full ops (Some (Due n place)) line i go s k = used_full ops line i n place go s k

fitted_full : (ops : List Signature) (r : Result ℤ FaultKind) (line : ℕ) (go : Then) (s : State)
    → FillsThen ops go → Full ops (fitted line r s go)
fitted_full ops (Ok v) line go s k = k (Int v) s
fitted_full ops (Err e) line go s k = tt

or_else_full : (ops : List Signature) (o : Option ℤ) (go : ℤ → Dialogue) (d : Dialogue)
    → ((v : ℤ) → Full ops (go v)) → Full ops d → Full ops (or_else o go d)
or_else_full ops (Some v) go d p k = p v
or_else_full ops None go d p k = k

valued_full : (ops : List Signature) (t : Placed) (line : ℕ) (go : Then) (s : State)
    → FillsThen ops go → Full ops (valued line t s go)
valued_full ops (number v) line go s k = k (Int v) s
valued_full ops (text b) line go s k = k (Str b) s
valued_full ops (at i) line go s k = looked_full ops (slice_get s.vars i) line i go s k
valued_full ops (converted a) line go s k =
    valued_full ops a line (λ x u. fitted line (atoi_of (text_of x)) u go) s
    (λ x u. fitted_full ops (atoi_of (text_of x)) line go u k)
valued_full ops (compared a b) line go s k =
    valued_full ops a line
    (λ x u. valued line b u (λ y w. go (Int (order_of (text_of x) (text_of y))) w)) s
    (λ x u. valued_full ops b line (λ y w. go (Int (order_of (text_of x) (text_of y))) w) u
    (λ y w. k (Int (order_of (text_of x) (text_of y))) w))
valued_full ops (negated a) line go s k =
    valued_full ops a line (λ x u. fitted line (fit (pos 0 -ℤ int_of x)) u go) s
    (λ x u. fitted_full ops (fit (pos 0 -ℤ int_of x)) line go u k)
valued_full ops (inverted a) line go s k =
    valued_full ops a line (λ x u. go (Int (truth (is_zero (int_of x)))) u) s
    (λ x u. k (Int (truth (is_zero (int_of x)))) u)
valued_full ops (both o a b) line go s k =
    valued_full ops a line (λ x u. or_else (decided o (int_of x)) (λ v. go (Int v) u)
    (valued line b u (λ y w. fitted line (apply o (int_of x) (int_of y)) w go))) s
    (λ x u. or_else_full ops (decided o (int_of x)) (λ v. go (Int v) u)
    (valued line b u (λ y w. fitted line (apply o (int_of x) (int_of y)) w go))
    (λ v. k (Int v) u)
    (valued_full ops b line (λ y w. fitted line (apply o (int_of x) (int_of y)) w go) u
    (λ y w. fitted_full ops (apply o (int_of x) (int_of y)) line go w k)))

all_full : (ops : List Signature) (ts : List Placed) (line : ℕ) (go : ThenAll) (s : State)
    → FillsAll ops go → Full ops (all_valued line ts s go)
all_full ops [] line go s k = k [] s
all_full ops (t ∷ ts) line go s k =
    valued_full ops t line (λ v u. all_valued line ts u (λ vs w. go (v ∷ vs) w)) s
    (λ v u. all_full ops ts line (λ vs w. go (v ∷ vs) w) u (λ vs w. k (v ∷ vs) w))

value_fills : (ops : List Signature) (line : ℕ) (t : Placed) (go : ℕ → Then)
    → ((n : ℕ) → FillsThen ops (go n)) → Fills ops (step (λ n s. valued line t s (go n)))
value_fills ops line t go k =
    step_full ops (λ n s. valued line t s (go n)) (λ n s. valued_full ops t line (go n) s (k n))

values_fill : (ops : List Signature) (line : ℕ) (ts : List Placed) (go : ℕ → ThenAll)
    → ((n : ℕ) → FillsAll ops (go n)) → Fills ops (step (λ n s. all_valued line ts s (go n)))
values_fill ops line ts go k = step_full ops (λ n s. all_valued line ts s (go n))
    (λ n s. all_full ops ts line (go n) s (k n))

-- ---- statements that call nothing

set_fills : (ops : List Signature) (line to : ℕ) (t : Placed) → Fills ops (do_set line to t)
set_fills ops line to t = value_fills ops line t (λ n v u. Done n (set_to to v u)) (λ n v s. tt)

print_fills : (ops : List Signature) (line : ℕ) (format : List ℕ) (args : List Placed)
    → Fills ops (do_print line format args)
print_fills ops line format args =
    values_fill ops line args (λ n vs u. printing line (formatted format vs) n u) (λ n vs s.
    if_full ops (nat_le (length (s.text ++ formatted format vs)) PRINTED_LIMIT)
    (Done n (with_text (s.text ++ formatted format vs) s)) (fails line TextTooLong s) tt tt)

print_str_fills : (ops : List Signature) (line to : ℕ) (format : List ℕ) (args : List Placed)
    → Fills ops (do_print_str line to format args)
print_str_fills ops line to format args =
    values_fill ops line args (λ n vs u. printing_str line to (formatted format vs) n u)
    (λ n vs s. if_full ops (nat_le (length (formatted format vs)) STRING_LIMIT)
    (Done n (set_to to (Str (formatted format vs)) s)) (fails line StringTooLong s) tt tt)

absent_fills : (ops : List Signature) (line to : ℕ) (name : List ℕ) (m : Mode)
    → Fills ops (absent line to name m)
absent_fills ops line to name R n s = tt
absent_fills ops line to name W n s = tt
absent_fills ops line to name A n s = tt

opened_fills : (ops : List Signature) (a : Answer) (line to : ℕ) (name : List ℕ) (m : Mode)
    → Fills ops (opened a line to name m)
opened_fills ops (Bytes bytes) line to name m n s = tt
opened_fills ops Absent line to name m n s = absent_fills ops line to name m n s
opened_fills ops TooLong line to name m n s = tt
opened_fills ops Went line to name m n s = tt
opened_fills ops (Val v) line to name m n s = tt

asks_to_open_fills : (ops : List Signature) (line to : ℕ) (name : List ℕ) (m : Mode)
    → Fills ops (asks_to_open line to name m)
asks_to_open_fills ops line to name m n s = ask_full ops line (OpenFile name m line) (λ u. u)
    (λ u a. opened a line to name m n u) s tt
    (λ a. opened_fills ops a line to name m n (counted s))

opening_fills : (ops : List Signature) (line to : ℕ) (name : List ℕ) (m : Mode)
    → Fills ops (opening line to name m)
opening_fills ops line to name R n s = asks_to_open_fills ops line to name R n s
opening_fills ops line to name W n s = tt
opening_fills ops line to name A n s = asks_to_open_fills ops line to name A n s

open_fills : (ops : List Signature) (t : Given) (line to : ℕ) (path : Placed) (m : Mode)
    → Fills ops (do_open t line to path m)
open_fills ops t line to path m = value_fills ops line path (opens t line to m)
    (λ n v s. unless_full ops (open_fault t s to (text_of v) m) line s
    (opening line to (text_of v) m n (noting_one v s))
    (opening_fills ops line to (text_of v) m n (noting_one v s)))

closing_by_fills : (ops : List Signature) (m : Mode) (line i : ℕ) (o : Opened)
    → Fills ops (closing_by m line i o)
closing_by_fills ops R line i o n s = tt
closing_by_fills ops W line i o n s = ask_full ops line (CloseFile o.name o.content) (closed i)
    (λ u a. Done n (closed i u)) s tt (λ a. tt)
closing_by_fills ops A line i o n s = ask_full ops line (CloseFile o.name o.content) (closed i)
    (λ u a. Done n (closed i u)) s tt (λ a. tt)

closing_fills : (ops : List Signature) (line i : ℕ) (o : Option Opened)
    → Fills ops (closing line i o)
closing_fills ops line i None n s = tt
closing_fills ops line i (Some o) n s = closing_by_fills ops o.mode line i o n s

writing_fills : (ops : List Signature) (line i : ℕ) (out : List ℕ) (o : Option Opened)
    → Fills ops (writing line i out o)
writing_fills ops line i out None n s = tt
writing_fills ops line i out (Some o) n s =
    let short = nat_le (length (o.content ++ out)) FILE_LIMIT in
    let u = with_handle i (Some (appended out o)) s in
    if_full ops (not (writes o.mode)) (fails line WrongMode s)
    (if short then Done n u else fails line FileTooLong s) tt
    (if_full ops short (Done n u) (fails line FileTooLong s) tt tt)

taken_fills : (ops : List Signature) (line got_at i to : ℕ) (o : Opened)
    (r : Result Taken FaultKind) → Fills ops (line_taken line got_at i to o r)
taken_fills ops line got_at i to o (Err fault) n s = tt
taken_fills ops line got_at i to o (Ok no_more) n s = tt
taken_fills ops line got_at i to o (Ok (got bytes next)) n s = tt

reading_fills : (ops : List Signature) (line got_at i to : ℕ) (o : Option Opened)
    → Fills ops (reading line got_at i to o)
reading_fills ops line got_at i to None n s = tt
reading_fills ops line got_at i to (Some o) n s =
    let r = read_line_at o.content o.at in
    if_full ops (writes o.mode) (fails line WrongMode s) (line_taken line got_at i to o r n s) tt
    (taken_fills ops line got_at i to o r n s)

-- ---- calls

handed_many : (names : List (List ℕ)) (ps : List Param) (args : List Passed)
    → length args ≡ length ps → length (all_handed names ps args) ≡ length ps
handed_many names [] args many = refl
handed_many names (p ∷ ps) [] many = absurd (omega arith)
handed_many names (p ∷ ps) (a ∷ args) many = ap suc (handed_many names ps args (omega arith))

passed_full : (ops : List Signature) (ps : List Param) (hs : List Handed) (line : ℕ)
    (go : ThenArgs) (s : State) → length hs ≡ length ps
    → ((args : List CallArg) (s : State) → length args ≡ length ps → Full ops (go args s))
    → Full ops (passed_valued line ps hs s go)
passed_full ops [] hs line go s many k = k [] s refl
passed_full ops (p ∷ ps) [] line go s many k = absurd (omega arith)
passed_full ops (p ∷ ps) (into i ∷ hs) line go s many k =
    passed_full ops ps hs line (λ args u. go (out_of p.kind ∷ args) u) s (omega arith)
    (λ args u m. k (out_of p.kind ∷ args) u (ap suc m))
passed_full ops (p ∷ ps) (by_value t ∷ hs) line go s many k =
    valued_full ops t line
    (λ v u. passed_valued line ps hs u (λ args w. go (arg_of p.kind v ∷ args) w)) s
    (λ v u. passed_full ops ps hs line (λ args w. go (arg_of p.kind v ∷ args) w) u (omega arith)
    (λ args w m. k (arg_of p.kind v ∷ args) w (ap suc m)))

went_fills : (ops : List Signature) (a : Answer) (line : ℕ) (hs : List Handed)
    → Fills ops (went a line hs)
went_fills ops Absent line hs n s = tt
went_fills ops TooLong line hs n s = tt
went_fills ops Went line hs n s = tt
went_fills ops (Val v) line hs n s = tt
went_fills ops (Bytes b) line hs n s = tt

call_fills : (t : Given) (line op : ℕ) (hs : List Handed)
    → length hs ≡ length (params_at t.ops op)
    → Fills t.ops (do_call t line op (params_at t.ops op) hs)
call_fills t line op hs many = step_full t.ops
    (λ n s. passed_valued line (params_at t.ops op) hs s
    (calls t line op (params_at t.ops op) hs n))
    (λ n s. passed_full t.ops (params_at t.ops op) hs line
    (calls t line op (params_at t.ops op) hs n) s many
    (λ args u m. unless_full t.ops (call_fault t u (params_at t.ops op) args) line u
    (calling line op hs args n (noting_all args u))
    (ask_full t.ops line (Call op line args) numbered (λ u a. went a line hs n (numbered u))
    (noting_all args u) m
    (λ a. went_fills t.ops a line hs n (numbered (counted (noting_all args u)))))))

passed_many : (vars : Vars) (params : List Param) (before : List Passed) (ps : List Param)
    (args : List Passed) → PassedAre vars params before ps args → length args ≡ length ps
passed_many vars params before [] [] are = refl
passed_many vars params before [] (a ∷ args) are = absurd are
passed_many vars params before (p ∷ ps) [] are = absurd are
passed_many vars params before (p ∷ ps) (a ∷ args) are =
    ap suc (passed_many vars params (before ++ a ∷ []) ps args are.2)

call_at_fills : (t : Given) (line : ℕ) (op : Option ℕ) (args : List Passed)
    → ((place : ℕ) → op ≡ Some place → length args ≡ length (params_at t.ops place))
    → Fills t.ops (do_call_at t line op args)
call_at_fills t line None args many n s = tt
call_at_fills t line (Some op) args many n s =
    call_fills t line op (all_handed (names_of t) (params_at t.ops op) args)
    (handed_many (names_of t) (params_at t.ops op) args (many op refl)) n s

one_place : (o : Option ℕ) (i j : ℕ) → o ≡ Some i → o ≡ Some j → i ≡ j
one_place o i j p q = cc

-- ---- tests and loops

branch_fills : (ops : List Signature) (b : Bool) (go other : Meaning) → Fills ops go
    → Fills ops other → Fills ops (branch b go other)
branch_fills ops true go other p k n s = k n s
branch_fills ops false go other p k n s = p n s

tested_fills : (ops : List Signature) (line : ℕ) (t : Placed) (go : Bool → Meaning)
    → ((b : Bool) → Fills ops (go b)) → Fills ops (tested line t go)
tested_fills ops line t go k = value_fills ops line t (λ n v u. go (is_zero (int_of v)) n u)
    (λ n v s. k (is_zero (int_of v)) n s)

and_then_fills : (ops : List Signature) (body go : Meaning) → Fills ops body → Fills ops go
    → Fills ops (λ n s. then_do (body n s) go)
and_then_fills ops body go p k n s = then_full ops (body n s) go (p n s) k

turns_fill : (ops : List Signature) (k line : ℕ) (t : Placed) (body : Meaning) → Fills ops body
    → Fills ops (turns k line t body)
unfolding turns
turns_fill ops zero line t body p n s = tt
turns_fill ops (suc k) line t body p n s =
    tested_fills ops line t
    (λ ends. branch ends (λ n s. then_do (body n s) (turns k line t body)) ended)
    (λ b. branch_fills ops b (λ n s. then_do (body n s) (turns k line t body)) ended
    (and_then_fills ops body (turns k line t body) p (turns_fill ops k line t body p))
    (λ n s. tt)) n s

setting_fills : (t : Given) (a : Setting) → Fills t.ops (run_setting t a)
setting_fills t a n s =
    set_fills t.ops a.to.line (variable t a.to.text) (placed (names_of t) a.value) n s

maybe_fills : (t : Given) (o : Option Setting) → Fills t.ops (run_maybe t o)
maybe_fills t None n s = tt
maybe_fills t (Some a) n s = setting_fills t a n s

while_fills : (ops : List Signature) (line : ℕ) (t : Placed) (body : Meaning) → Fills ops body
    → Fills ops (λ n s. turns (suc n) line t body n s)
while_fills ops line t body p n s = turns_fill ops (suc n) line t body p n s

mutual
  run_fills : (t : Given) (vars : Vars) (c : Code) → CodePasses t.ops vars c → Fills t.ops (run t c)
  run_fills t vars (empty line) is n s = step_full t.ops ended (λ n s. tt) n s
  run_fills t vars (block line body) is n s = run_all_fills t vars body is n s
  run_fills t vars (assign a) is n s = setting_fills t a n s
  run_fills t vars (choose line test then_c else_c) is n s =
      tested_fills t.ops line (placed (names_of t) test)
      (λ b. branch b (run_all t then_c) (run_else t else_c))
      (λ b. branch_fills t.ops b (run_all t then_c) (run_else t else_c)
      (run_all_fills t vars then_c is.1) (run_else_fills t vars else_c is.2)) n s
  run_fills t vars (while line test body) is n s =
      while_fills t.ops line (placed (names_of t) test) (run_all t body)
      (run_all_fills t vars body is.1) n s
  run_fills t vars (for line first test last body) is n s =
      and_then_fills t.ops (run_maybe t first)
      (λ n s. turns (suc n) line (placed (names_of t) (test_or_true test line))
      (λ n s. then_do (run_all t body n s) (run_maybe t last)) n s) (maybe_fills t first)
      (while_fills t.ops line (placed (names_of t) (test_or_true test line))
      (λ n s. then_do (run_all t body n s) (run_maybe t last))
      (and_then_fills t.ops (run_all t body) (run_maybe t last) (run_all_fills t vars body is.3)
      (maybe_fills t last))) n s
  run_fills t vars (open_file line to path m) is n s =
      open_fills t.ops t line (variable t to.text) (placed (names_of t) path) m n s
  run_fills t vars (read_line line got_at handle to) is n s = step_full t.ops
      (λ n s. reading line (variable t got_at.text) (variable t handle.text) (variable t to.text)
      (opened_at s (variable t handle.text)) n s)
      (λ n s. reading_fills t.ops line (variable t got_at.text) (variable t handle.text)
      (variable t to.text) (opened_at s (variable t handle.text)) n s) n s
  run_fills t vars (close_file line handle) is n s = step_full t.ops
      (λ n s. closing line (variable t handle.text) (opened_at s (variable t handle.text)) n s)
      (λ n s. closing_fills t.ops line (variable t handle.text)
      (opened_at s (variable t handle.text)) n s) n s
  run_fills t vars (barrier line) is n s = step_full t.ops
      (λ n s. action line s (λ u. Ask Barrier u (λ a. Done n u)))
      (λ n s. ask_full t.ops line Barrier (λ u. u) (λ u a. Done n u) s tt (λ a. tt)) n s
  run_fills t vars (print line format args) is n s =
      print_fills t.ops line format.text (all_placed (names_of t) args) n s
  run_fills t vars (print_file line handle format args) is n s =
      values_fill t.ops line (all_placed (names_of t) args)
      (λ n vs u. writing line (variable t handle.text) (formatted format.text vs)
      (opened_at u (variable t handle.text)) n u)
      (λ n vs u. writing_fills t.ops line (variable t handle.text) (formatted format.text vs)
      (opened_at u (variable t handle.text)) n u) n s
  run_fills t vars (print_str line to format args) is n s =
      print_str_fills t.ops line (variable t to.text) format.text (all_placed (names_of t) args) n
      s
  run_fills t vars (call op args) is n s =
      call_at_fills t op.line (op_place t.ops op.text) args
      (λ place e. passed_many vars (params_at t.ops is.place) [] (params_at t.ops is.place) args
      is.args_are ∙ ap (λ (i : ℕ). length (params_at t.ops i))
      (one_place (op_place t.ops op.text) is.place place is.found e)) n s

  run_all_fills : (t : Given) (vars : Vars) (cs : Codes) → CodesPass t.ops vars cs
      → Fills t.ops (run_all t cs)
  run_all_fills t vars none is n s = tt
  run_all_fills t vars (one c cs) is n s =
      and_then_fills t.ops (run t c) (run_all t cs) (run_fills t vars c is.0)
      (run_all_fills t vars cs is.1) n s

  run_else_fills : (t : Given) (vars : Vars) (cs : MaybeCodes) → ElsePasses t.ops vars cs
      → Fills t.ops (run_else t cs)
  run_else_fills t vars without is n s = tt
  run_else_fills t vars (otherwise body) is n s = run_all_fills t vars body is n s

-- ---- a whole program

first_fills : (t : Given) (settings : List Setting) → Fills t.ops (run_first t settings)
first_fills t [] n s = tt
first_fills t (a ∷ more) n s = and_then_fills t.ops (run_setting t a) (run_first t more)
    (setting_fills t a) (first_fills t more) n s

settled_full : (ops : List Signature) (vars : List Slot) (line i : ℕ) (s : State)
    → Full ops (settled line i vars s)
settled_full ops [] line i s = tt
settled_full ops (Held v ∷ vars) line i s = settled_full ops vars line (suc i) s
settled_full ops (Due n k ∷ vars) line i s =
    used_full ops line i n k (λ v u. settled line (suc i) vars u) s
    (λ v u. settled_full ops vars line (suc i) u)

leaving_full : (ops : List Signature) (b : Bool) (line : ℕ) (s : State)
    → Full ops (leaving line b s)
leaving_full ops true line s = tt
leaving_full ops false line s = settled_full ops s.vars line 0 s

finish_fills : (ops : List Signature) (line : ℕ) → Fills ops (finish line)
finish_fills ops line = step_full ops (λ n s. leaving line (list_any is_some s.handles) s)
    (λ n s. leaving_full ops (list_any is_some s.handles) line s)

pub dialogue_full : (t : Given) (fuel : ℕ) → CodesPass t.ops t.program.vars t.program.body
    → Full t.ops (dialogue t fuel)
dialogue_full t fuel passes =
    and_then_fills t.ops (run_first t t.program.first)
    (λ n s. then_do (step ended n s) (λ n s. then_do (run_all t t.program.body n s)
    (finish t.program.off))) (first_fills t t.program.first)
    (and_then_fills t.ops (step ended)
    (λ n s. then_do (run_all t t.program.body n s) (finish t.program.off))
    (step_full t.ops ended (λ n s. tt))
    (and_then_fills t.ops (run_all t t.program.body) (finish t.program.off)
    (run_all_fills t t.program.vars t.program.body passes)
    (finish_fills t.ops t.program.off))) fuel (start t)
