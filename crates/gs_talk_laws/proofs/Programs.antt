-- A program asks for what is due.
use Rattle.std.proofs.Common.{◌≡◌, ◌+◌, ◌++◌, ℕ, zero, suc, Bool, true, false, not, refl, ap, ◌∙◌, List, [], ◌∷◌, map, set, length, Result, Ok, Err, Option, Some, None, arith, slice_get, if◌then◌else◌, nat_le, subst}
use Rattle.std.specs.List.{list_any}
use Rattle.std.specs.Prelude.{is_some}
use Rattle.gs_idl.specs.Interface.{Signature, op_place, params_at}
use Rattle.gs_tree.specs.declared.tree.Mode.{Mode}
use Rattle.gs_tree.specs.declared.tree.Mode.TheVariants.{R, W, A}
use Rattle.gs_tree.specs.declared.tree.VarKind.{VarKind}
use Rattle.gs_tree.specs.declared.tree.VarKind.TheVariants as var_kind
use Rattle.gs_tree.specs.Program.{Name, Setting, Passed, Code, empty, block, set as assign, choose, while, for, open_file, read_line, close_file, barrier, print, print_file, print_str, call, Codes, none, one, MaybeCodes, without, otherwise}
use Rattle.gs_types.specs.declared.value.Value.{Value}
use Rattle.gs_types.specs.declared.value.Value.TheVariants.{Str}
use Rattle.gs_types.specs.declared.limits.TheConstants.{FILE_LIMIT, STRING_LIMIT, PRINTED_LIMIT}
use Rattle.gs_types.specs.declared.settings.FaultKind.{FaultKind}
use Rattle.gs_types.specs.declared.settings.FaultKind.TheVariants.{StringTooLong, TextTooLong, FileTooLong, WrongMode}
use Rattle.gs_talk.specs.declared.slot.Slot.{Slot}
use Rattle.gs_talk.specs.declared.slot.Slot.TheVariants.{Held, Due}
use Rattle.gs_talk.specs.declared.question.Question.{Question}
use Rattle.gs_talk.specs.declared.question.Question.TheVariants.{Call, Use, OpenFile, CloseFile, Barrier}
use Rattle.gs_talk.specs.declared.question.Answer.{Answer}
use Rattle.gs_talk.specs.declared.question.Answer.TheVariants.{Went, Val, Bytes, Absent, TooLong}
use Rattle.gs_talk.specs.Terms.{Placed, placed, all_placed}
use Rattle.gs_talk.specs.Values.{is_zero, int_of, text_of}
use Rattle.gs_talk.specs.Texts.{formatted, Taken, no_more, got, read_line_at}
use Rattle.gs_talk.specs.Talk.{Given, names_of, State, Opened, Dialogue, Done, Ask, Stop, Asks, Meaning, then_do, step, fails, action, counted, set_to, with_text, with_handle, appended, closed, read_to, valued, all_valued, passed_valued, do_set, printing, do_print, printing_str, do_print_str, opened_at, open_fault, absent, opened, asks_to_open, opening, do_open, closing_by, closing, do_close, writes, writing, do_print_file, line_taken, reading, do_read, do_barrier, Handed, all_handed, call_fault, calling, do_call, do_call_at, tested, branch, ended, turns, test_or_true, run_setting, run_maybe, variable, run, run_all, run_else, run_first, settled, leaving, finish, first_slot, start, dialogue, after}
use Rattle.gs_talk_laws.specs.Uses.{Told, with_answer, told_after, nothing_told, UsesAreDue, CallsFit}
use Rattle.gs_talk_laws.proofs.Fuel.{Then, ThenAll}
use Rattle.gs_talk_laws.proofs.Statements.{noting_one, opens, noting_all, calls}
use Rattle.gs_talk_laws.proofs.Proper.{IsLast, Right, Well, Proper, Keeps, KeepsThen, then_proper, step_proper, if_proper, unless_proper, well_set, well_counted, ask_proper, used_proper, valued_proper, all_proper, AreHanded, all_are_handed, passed_proper, calling_proper}

abbrev KeepsAll : List Signature → ThenAll → Type 0
KeepsAll ops go = (h : Told) (vs : List Value) (s : State) → Well h s → Proper ops h (go vs s)

value_keeps : (ops : List Signature) (line : ℕ) (t : Placed) (go : ℕ → Then) → ((n : ℕ) → KeepsThen ops (go n)) → Keeps ops (step (λ n s. valued line t s (go n)))
value_keeps ops line t go k = step_proper ops (λ n s. valued line t s (go n)) (λ h n s w. valued_proper ops t line (go n) h s w (k n))

values_keep : (ops : List Signature) (line : ℕ) (ts : List Placed) (go : ℕ → ThenAll) → ((n : ℕ) → KeepsAll ops (go n)) → Keeps ops (step (λ n s. all_valued line ts s (go n)))
values_keep ops line ts go k = step_proper ops (λ n s. all_valued line ts s (go n)) (λ h n s w. all_proper ops ts line (go n) h s w (k n))

-- ---- assignments and prints

set_keeps : (ops : List Signature) (line to : ℕ) (t : Placed) → Keeps ops (do_set line to t)
set_keeps ops line to t = value_keeps ops line t (λ n v u. Done n (set_to to v u)) (λ n h v s w. well_set h s to v w)

printing_keeps : (ops : List Signature) (line : ℕ) (out : List ℕ) → Keeps ops (printing line out)
printing_keeps ops line out h n s w =
    if_proper ops (nat_le (length (s.text ++ out)) PRINTED_LIMIT) (Done n (with_text (s.text ++ out) s)) (fails line TextTooLong s) h w tt

printing_str_keeps : (ops : List Signature) (line to : ℕ) (out : List ℕ) → Keeps ops (printing_str line to out)
printing_str_keeps ops line to out h n s w = if_proper ops (nat_le (length out) STRING_LIMIT) (Done n (set_to to (Str out) s)) (fails line StringTooLong s) h (well_set h s to (Str out) w) tt

print_keeps : (ops : List Signature) (line : ℕ) (format : List ℕ) (args : List Placed) → Keeps ops (do_print line format args)
print_keeps ops line format args = values_keep ops line args (λ n vs u. printing line (formatted format vs) n u) (λ n h vs s w. printing_keeps ops line (formatted format vs) h n s w)

print_str_keeps : (ops : List Signature) (line to : ℕ) (format : List ℕ) (args : List Placed) → Keeps ops (do_print_str line to format args)
print_str_keeps ops line to format args = values_keep ops line args (λ n vs u. printing_str line to (formatted format vs) n u) (λ n h vs s w. printing_str_keeps ops line to (formatted format vs) h n s w)

-- ---- files

absent_keeps : (ops : List Signature) (line to : ℕ) (name : List ℕ) (m : Mode) → Keeps ops (absent line to name m)
absent_keeps ops line to name R h n s w = tt
absent_keeps ops line to name W h n s w = w
absent_keeps ops line to name A h n s w = w

opened_keeps : (ops : List Signature) (a : Answer) (line to : ℕ) (name : List ℕ) (m : Mode) → Keeps ops (opened a line to name m)
opened_keeps ops (Bytes bytes) line to name m h n s w = w
opened_keeps ops Absent line to name m h n s w = absent_keeps ops line to name m h n s w
opened_keeps ops TooLong line to name m h n s w = tt
opened_keeps ops Went line to name m h n s w = w
opened_keeps ops (Val v) line to name m h n s w = w

asks_to_open_keeps : (ops : List Signature) (line to : ℕ) (name : List ℕ) (m : Mode) → Keeps ops (asks_to_open line to name m)
asks_to_open_keeps ops line to name m h n s w =
    ask_proper ops line (OpenFile name m line) (λ u. u) (λ u a. opened a line to name m n u) h s w tt (λ a. opened_keeps ops a line to name m (with_answer (OpenFile name m line) a h) n (counted s) (well_counted h s w))

opening_keeps : (ops : List Signature) (line to : ℕ) (name : List ℕ) (m : Mode) → Keeps ops (opening line to name m)
opening_keeps ops line to name R h n s w = asks_to_open_keeps ops line to name R h n s w
opening_keeps ops line to name W h n s w = w
opening_keeps ops line to name A h n s w = asks_to_open_keeps ops line to name A h n s w

open_keeps : (ops : List Signature) (t : Given) (line to : ℕ) (path : Placed) (m : Mode) → Keeps ops (do_open t line to path m)
open_keeps ops t line to path m = value_keeps ops line path (opens t line to m)
    (λ n h v s w. unless_proper ops (open_fault t s to (text_of v) m) line s (opening line to (text_of v) m n (noting_one v s)) h (opening_keeps ops line to (text_of v) m h n (noting_one v s) w))

written_keeps : (ops : List Signature) (line i : ℕ) (o : Opened) → Keeps ops (λ n s. action line s (λ u. Ask (CloseFile o.name o.content) (closed i u) (λ a. Done n (closed i u))))
written_keeps ops line i o h n s w = ask_proper ops line (CloseFile o.name o.content) (closed i) (λ u a. Done n (closed i u)) h s w tt (λ a. well_counted h s w)

closing_by_keeps : (ops : List Signature) (m : Mode) (line i : ℕ) (o : Opened) → Keeps ops (closing_by m line i o)
closing_by_keeps ops R line i o h n s w = w
closing_by_keeps ops W line i o h n s w = written_keeps ops line i o h n s w
closing_by_keeps ops A line i o h n s w = written_keeps ops line i o h n s w

closing_keeps : (ops : List Signature) (line i : ℕ) (o : Option Opened) → Keeps ops (closing line i o)
closing_keeps ops line i None h n s w = tt
closing_keeps ops line i (Some o) h n s w = closing_by_keeps ops o.mode line i o h n s w

close_keeps : (ops : List Signature) (line i : ℕ) → Keeps ops (do_close line i)
close_keeps ops line i = step_proper ops (λ n s. closing line i (opened_at s i) n s) (λ h n s w. closing_keeps ops line i (opened_at s i) h n s w)

writing_keeps : (ops : List Signature) (line i : ℕ) (out : List ℕ) (o : Option Opened) → Keeps ops (writing line i out o)
writing_keeps ops line i out None h n s w = tt
writing_keeps ops line i out (Some o) h n s w =
    let short = nat_le (length (o.content ++ out)) FILE_LIMIT in
    let u = with_handle i (Some (appended out o)) s in
    if_proper ops (not (writes o.mode)) (fails line WrongMode s) (if short then Done n u else fails line FileTooLong s) h tt (if_proper ops short (Done n u) (fails line FileTooLong s) h w tt)

print_file_keeps : (ops : List Signature) (line i : ℕ) (format : List ℕ) (args : List Placed) → Keeps ops (do_print_file line i format args)
print_file_keeps ops line i format args =
    values_keep ops line args (λ n vs u. writing line i (formatted format vs) (opened_at u i) n u) (λ n h vs s w. writing_keeps ops line i (formatted format vs) (opened_at s i) h n s w)

taken_keeps : (ops : List Signature) (line got_at i to : ℕ) (o : Opened) (r : Result Taken FaultKind) → Keeps ops (line_taken line got_at i to o r)
taken_keeps ops line got_at i to o (Err fault) h n s w = tt
taken_keeps ops line got_at i to o (Ok no_more) h n s w = well_set h s got_at _ w
taken_keeps ops line got_at i to o (Ok (got bytes next)) h n s w =
    let opened = with_handle i (Some (read_to next o)) s in
    well_set h (set_to to (Str bytes) opened) got_at _ (well_set h opened to (Str bytes) w)

reading_keeps : (ops : List Signature) (line got_at i to : ℕ) (o : Option Opened) → Keeps ops (reading line got_at i to o)
reading_keeps ops line got_at i to None h n s w = tt
reading_keeps ops line got_at i to (Some o) h n s w =
    let r = read_line_at o.content o.at in
    if_proper ops (writes o.mode) (fails line WrongMode s) (line_taken line got_at i to o r n s) h tt (taken_keeps ops line got_at i to o r h n s w)

read_keeps : (ops : List Signature) (line got_at i to : ℕ) → Keeps ops (do_read line got_at i to)
read_keeps ops line got_at i to = step_proper ops (λ n s. reading line got_at i to (opened_at s i) n s) (λ h n s w. reading_keeps ops line got_at i to (opened_at s i) h n s w)

barrier_keeps : (ops : List Signature) (line : ℕ) → Keeps ops (do_barrier line)
barrier_keeps ops line = step_proper ops (λ n s. action line s (λ u. Ask Barrier u (λ a. Done n u))) (λ h n s w. ask_proper ops line Barrier (λ u. u) (λ u a. Done n u) h s w tt (λ a. well_counted h s w))

-- ---- calls

call_keeps : (t : Given) (line op : ℕ) (hs : List Handed) → AreHanded hs (params_at t.ops op) → Keeps t.ops (do_call t line op (params_at t.ops op) hs)
call_keeps t line op hs are =
    step_proper t.ops (λ n s. passed_valued line (params_at t.ops op) hs s (calls t line op (params_at t.ops op) hs n))
    (λ h n s w. passed_proper t.ops (params_at t.ops op) hs line (calls t line op (params_at t.ops op) hs n) h s are w
    (λ h args s match w. unless_proper t.ops (call_fault t s (params_at t.ops op) args) line s (calling line op hs args n (noting_all args s)) h (calling_proper t.ops line op n hs args h (noting_all args s) match w)))

call_at_keeps : (t : Given) (line : ℕ) (op : Option ℕ) (args : List Passed) → Keeps t.ops (do_call_at t line op args)
call_at_keeps t line None args h n s w = w
call_at_keeps t line (Some op) args h n s w =
    call_keeps t line op (all_handed (names_of t) (params_at t.ops op) args) (all_are_handed (names_of t) (params_at t.ops op) args) h n s w

-- ---- tests and loops

branch_keeps : (ops : List Signature) (b : Bool) (go other : Meaning) → Keeps ops go → Keeps ops other → Keeps ops (branch b go other)
branch_keeps ops true go other p k h n s w = k h n s w
branch_keeps ops false go other p k h n s w = p h n s w

tested_keeps : (ops : List Signature) (line : ℕ) (t : Placed) (go : Bool → Meaning) → ((b : Bool) → Keeps ops (go b)) → Keeps ops (tested line t go)
tested_keeps ops line t go k = value_keeps ops line t (λ n v u. go (is_zero (int_of v)) n u) (λ n h v s w. k (is_zero (int_of v)) h n s w)

and_then_keeps : (ops : List Signature) (body go : Meaning) → Keeps ops body → Keeps ops go → Keeps ops (λ n s. then_do (body n s) go)
and_then_keeps ops body go p k h n s w = then_proper ops (body n s) h go (p h n s w) k

turns_keep : (ops : List Signature) (k line : ℕ) (t : Placed) (body : Meaning) → Keeps ops body → Keeps ops (turns k line t body)
unfolding turns
turns_keep ops zero line t body p h n s w = tt
turns_keep ops (suc k) line t body p h n s w =
    tested_keeps ops line t (λ ends. branch ends (λ n s. then_do (body n s) (turns k line t body)) ended)
    (λ b. branch_keeps ops b (λ n s. then_do (body n s) (turns k line t body)) ended (and_then_keeps ops body (turns k line t body) p (turns_keep ops k line t body p)) (λ h n s w. w)) h n s w

setting_keeps : (t : Given) (a : Setting) → Keeps t.ops (run_setting t a)
setting_keeps t a h n s w = set_keeps t.ops a.to.line (variable t a.to.text) (placed (names_of t) a.value) h n s w

maybe_keeps : (t : Given) (o : Option Setting) → Keeps t.ops (run_maybe t o)
maybe_keeps t None h n s w = w
maybe_keeps t (Some a) h n s w = setting_keeps t a h n s w

while_keeps : (ops : List Signature) (line : ℕ) (t : Placed) (body : Meaning) → Keeps ops body → Keeps ops (λ n s. turns (suc n) line t body n s)
while_keeps ops line t body p h n s w = turns_keep ops (suc n) line t body p h n s w

mutual
  run_keeps : (t : Given) (c : Code) → Keeps t.ops (run t c)
  run_keeps t (empty line) h n s w = step_proper t.ops ended (λ h n s w. w) h n s w
  run_keeps t (block line body) h n s w = run_all_keeps t body h n s w
  run_keeps t (assign a) h n s w = setting_keeps t a h n s w
  run_keeps t (choose line test then_c else_c) h n s w =
      tested_keeps t.ops line (placed (names_of t) test) (λ b. branch b (run_all t then_c) (run_else t else_c))
      (λ b. branch_keeps t.ops b (run_all t then_c) (run_else t else_c) (run_all_keeps t then_c) (run_else_keeps t else_c)) h n s w
  run_keeps t (while line test body) h n s w = while_keeps t.ops line (placed (names_of t) test) (run_all t body) (run_all_keeps t body) h n s w
  run_keeps t (for line first test last body) h n s w =
      and_then_keeps t.ops (run_maybe t first) (λ n s. turns (suc n) line (placed (names_of t) (test_or_true test line)) (λ n s. then_do (run_all t body n s) (run_maybe t last)) n s) (maybe_keeps t first)
      (while_keeps t.ops line (placed (names_of t) (test_or_true test line)) (λ n s. then_do (run_all t body n s) (run_maybe t last)) (and_then_keeps t.ops (run_all t body) (run_maybe t last) (run_all_keeps t body) (maybe_keeps t last))) h n s w
  run_keeps t (open_file line to path m) h n s w = open_keeps t.ops t line (variable t to.text) (placed (names_of t) path) m h n s w
  run_keeps t (read_line line got_at handle to) h n s w = read_keeps t.ops line (variable t got_at.text) (variable t handle.text) (variable t to.text) h n s w
  run_keeps t (close_file line handle) h n s w = close_keeps t.ops line (variable t handle.text) h n s w
  run_keeps t (barrier line) h n s w = barrier_keeps t.ops line h n s w
  run_keeps t (print line format args) h n s w = print_keeps t.ops line format.text (all_placed (names_of t) args) h n s w
  run_keeps t (print_file line handle format args) h n s w = print_file_keeps t.ops line (variable t handle.text) format.text (all_placed (names_of t) args) h n s w
  run_keeps t (print_str line to format args) h n s w = print_str_keeps t.ops line (variable t to.text) format.text (all_placed (names_of t) args) h n s w
  run_keeps t (call op args) h n s w = call_at_keeps t op.line (op_place t.ops op.text) args h n s w

  run_all_keeps : (t : Given) (cs : Codes) → Keeps t.ops (run_all t cs)
  run_all_keeps t none h n s w = w
  run_all_keeps t (one c cs) h n s w = and_then_keeps t.ops (run t c) (run_all t cs) (run_keeps t c) (run_all_keeps t cs) h n s w

  run_else_keeps : (t : Given) (cs : MaybeCodes) → Keeps t.ops (run_else t cs)
  run_else_keeps t without h n s w = w
  run_else_keeps t (otherwise body) h n s w = run_all_keeps t body h n s w

-- ---- a whole program

first_keeps : (t : Given) (settings : List Setting) → Keeps t.ops (run_first t settings)
first_keeps t [] h n s w = w
first_keeps t (a ∷ more) h n s w = and_then_keeps t.ops (run_setting t a) (run_first t more) (setting_keeps t a) (first_keeps t more) h n s w

set_after : (vars : List Slot) (i j : ℕ) (x : Slot) → slice_get (set vars i x) (suc (i + j)) ≡ slice_get vars (suc (i + j))
set_after [] i j x = refl
set_after (y ∷ vars) zero j x = refl
set_after (y ∷ vars) (suc i) j x = let e : suc i + j ≡ suc (i + j) = omega arith in rw e (set_after vars i j x)

settled_proper : (ops : List Signature) (vars : List Slot) (line i : ℕ) (h : Told) (s : State) → ((j : ℕ) → slice_get s.vars (i + j) ≡ slice_get vars j) → Well h s → Proper ops h (settled line i vars s)
settled_proper ops [] line i h s same w = tt
settled_proper ops (Held v ∷ vars) line i h s same w = settled_proper ops vars line (suc i) h s (λ j. let e : suc i + j ≡ i + suc j = omega arith in rw e (same (suc j))) w
settled_proper ops (Due n k ∷ vars) line i h s same w =
    let here : slice_get s.vars i ≡ Some (Due n k) = (let e : i ≡ i + 0 = omega arith in ap (slice_get s.vars) e ∙ same 0) in
    used_proper ops line i n k (λ v u. settled line (suc i) vars u) h s here w
    (λ v u. settled_proper ops vars line (suc i) (with_answer (Use n k) Went h) (set_to i v (counted s))
    (λ j. let e : suc i + j ≡ suc (i + j) = omega arith in let f : suc (i + j) ≡ i + suc j = omega arith in
    ap (slice_get (set s.vars i (Held v))) e ∙ set_after s.vars i j (Held v) ∙ ap (slice_get s.vars) f ∙ same (suc j)) u)

leaving_proper : (ops : List Signature) (b : Bool) (line : ℕ) (h : Told) (s : State) → Well h s → Proper ops h (leaving line b s)
leaving_proper ops true line h s w = tt
leaving_proper ops false line h s w = settled_proper ops s.vars line 0 h s (λ j. let e : 0 + j ≡ j = omega arith in ap (slice_get s.vars) e) w

finish_keeps : (ops : List Signature) (line : ℕ) → Keeps ops (finish line)
finish_keeps ops line = step_proper ops (λ n s. leaving line (list_any is_some s.handles) s) (λ h n s w. leaving_proper ops (list_any is_some s.handles) line h s w)

slot_held : (k : VarKind) (n place : ℕ) → first_slot k ≡ Due n place → ⊥
slot_held var_kind.Int n place e = cc
slot_held var_kind.Str n place e = cc
slot_held var_kind.Handle n place e = cc

first_held : (vars : List (Name × VarKind)) (i n place : ℕ) → slice_get (map (λ v. first_slot v.1) vars) i ≡ Some (Due n place) → ⊥
first_held [] i n place e = cc
first_held (v ∷ vars) zero n place e = slot_held v.1 n place (let f : Some (first_slot v.1) ≡ Some (Due n place) = e in cc)
first_held (v ∷ vars) (suc i) n place e = first_held vars i n place e

start_well : (t : Given) → Well nothing_told (start t)
start_well t = record { called = refl; counted = refl; slots = record { before = λ n k h. absurd h; waits = λ i n k h. absurd (first_held t.program.vars i n k h) } }

pub dialogue_proper : (t : Given) (fuel : ℕ) → Proper t.ops nothing_told (dialogue t fuel)
dialogue_proper t fuel =
    and_then_keeps t.ops (run_first t t.program.first) (λ n s. then_do (step ended n s) (λ n s. then_do (run_all t t.program.body n s) (finish t.program.off))) (first_keeps t t.program.first)
    (and_then_keeps t.ops (step ended) (λ n s. then_do (run_all t t.program.body n s) (finish t.program.off)) (step_proper t.ops ended (λ h n s w. w))
    (and_then_keeps t.ops (run_all t t.program.body) (finish t.program.off) (run_all_keeps t t.program.body) (finish_keeps t.ops t.program.off))) nothing_told fuel (start t) (start_well t)

-- ---- after some answers

asks_right : (ops : List Signature) (answers : List Answer) (d : Dialogue) (h : Told) (q : Question) (s : State) → (IsLast q → ⊥) → Proper ops h d → after d answers ≡ Asks q s → Right ops (told_after h d answers) q
asks_right ops answers (Done m u) h q s goes_on p e = absurd (cc)
asks_right ops answers (Stop r u) h q s goes_on p e = let is : r ≡ q = cc in absurd (goes_on (subst IsLast is p))
asks_right ops [] (Ask r u next) h q s goes_on p e = let is : r ≡ q = cc in subst (Right ops h) is p.1
asks_right ops (a ∷ answers) (Ask r u next) h q s goes_on p e = asks_right ops answers (next a) (with_answer r a h) q s goes_on (p.2 a) e

pub uses_are_due : UsesAreDue
uses_are_due t fuel answers n place s e = asks_right t.ops answers (dialogue t fuel) nothing_told (Use n place) s (λ last. last) (dialogue_proper t fuel) e

pub calls_fit : CallsFit
calls_fit t fuel answers op line args s e = asks_right t.ops answers (dialogue t fuel) nothing_told (Call op line args) s (λ last. last) (dialogue_proper t fuel) e
