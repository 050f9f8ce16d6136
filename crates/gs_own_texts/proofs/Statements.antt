-- A program's statements, and the whole of it, write no own text.
use Rattle.std.proofs.Common.{◌≡◌, ℕ, zero, suc, Bool, true, false, not, ◌&&◌, List, [], ◌∷◌, length, Option, Some, None, nat_lt, nat_le}
use Rattle.std.specs.Prelude.{is_some, map}
use Rattle.std.specs.Option.{option_or}
use Rattle.std.specs.List.{list_any}
use Rattle.gs_idl.specs.Interface.{Param, op_place, params_at, writes_file}
use Rattle.gs_tree.specs.Program.{Setting, Passed, Code, empty, block, set as assign, choose, while, for, open_file, read_line, close_file, barrier, print, print_file, print_str, call, Codes, none, one, MaybeCodes, without, otherwise}
use Rattle.gs_types.specs.NameTest.{is_name}
use Rattle.gs_types.specs.declared.limits.TheConstants.{TASK_LIMIT, NAME_LIMIT}
use Rattle.gs_types.specs.declared.settings.FaultKind.TheVariants.{BadName, OwnText, FileOpen, TooManyNames, TooManyTasks, SameOut}
use Rattle.gs_talk.specs.declared.slot.Slot.{Slot}
use Rattle.gs_talk.specs.declared.slot.Slot.TheVariants.{Held, Due}
use Rattle.gs_talk.specs.declared.question.CallArg.{CallArg}
use Rattle.gs_talk.specs.declared.question.CallArg.TheVariants as arg
use Rattle.gs_talk.specs.declared.question.Question.TheVariants.{Call, Barrier}
use Rattle.gs_talk.specs.declared.question.Answer.{Answer}
use Rattle.gs_talk.specs.declared.question.Answer.TheVariants.{Went, Val, Bytes, Absent, TooLong}
use Rattle.gs_talk.specs.Terms.{Placed, placed, all_placed}
use Rattle.gs_talk.specs.Values.{is_zero, int_of}
use Rattle.gs_talk.specs.Texts.{formatted}
use Rattle.gs_talk.specs.Talk.{Given, names_of, State, Done, Ask, Meaning, then_do, fault_if, step, counted, action, opened_at, is_written, closing, is_own_text, writing, reading, Handed, by_value, into, all_handed, arg_of, out_of, passed_valued, numbered, went, file_fault, files_fault, files_in, written_in, has_twice, with_names, call_fault, calling, do_call, do_call_at, tested, branch, ended, turns, test_or_true, run_setting, run_maybe, variable, run, run_all, run_else, run_first, settled, leaving, finish, start, dialogue}
use Rattle.gs_talk_laws.proofs.Fuel.{ThenArgs}
use Rattle.gs_talk_laws.proofs.Statements.{noting_all, calls}
use Rattle.gs_own_texts.proofs.Keeping.{CallKeeps, HandlesKeep, Keeps, Kept, then_keeps, step_keeps, unless_keeps, ask_keeps, used_keeps, valued_keeps, value_kept, values_kept, set_kept, print_kept, print_str_kept, open_kept, closing_kept, writing_kept, reading_kept, handle_keeps, first_none, no_fault, both_no}

abbrev KeptArgs : Given → ThenArgs → Type 0
KeptArgs t go = (args : List CallArg) (s : State) → HandlesKeep t s.handles → Keeps t (go args s)

-- ---- calls

passed_keeps : (t : Given) (ps : List Param) (hs : List Handed) (line : ℕ) (go : ThenArgs)
    (s : State) → HandlesKeep t s.handles → KeptArgs t go → Keeps t (passed_valued line ps hs s go)
passed_keeps t [] hs line go s h k = k [] s h
passed_keeps t (p ∷ ps) [] line go s h k = k [] s h
passed_keeps t (p ∷ ps) (into i ∷ hs) line go s h k =
    passed_keeps t ps hs line (λ args u. go (out_of p.kind ∷ args) u) s h
    (λ args u g. k (out_of p.kind ∷ args) u g)
passed_keeps t (p ∷ ps) (by_value v ∷ hs) line go s h k =
    valued_keeps t v line
    (λ x u. passed_valued line ps hs u (λ args w. go (arg_of p.kind x ∷ args) w)) s h
    (λ x u g. passed_keeps t ps hs line (λ args w. go (arg_of p.kind x ∷ args) w) u g
    (λ args w f. k (arg_of p.kind x ∷ args) w f))

went_kept : (t : Given) (a : Answer) (line : ℕ) (hs : List Handed) → Kept t (went a line hs)
went_kept t Absent line hs n s h = tt
went_kept t TooLong line hs n s h = tt
went_kept t Went line hs n s h = h
went_kept t (Val v) line hs n s h = h
went_kept t (Bytes b) line hs n s h = h

file_apart : (t : Given) (s : State) (p : Param) (name : List ℕ)
    → file_fault t s p (Some name) ≡ None → writes_file p ≡ true → is_own_text t name ≡ false
file_apart t s p name free =
    let a = first_none (fault_if (not (is_name name)) BadName)
    (option_or (fault_if (writes_file p && is_own_text t name) OwnText)
    (fault_if (is_written s name) FileOpen)) free in
    let b = first_none (fault_if (writes_file p && is_own_text t name) OwnText)
    (fault_if (is_written s name) FileOpen) a.1 in
    both_no (writes_file p) (is_own_text t name)
    (no_fault (writes_file p && is_own_text t name) OwnText b.0)

call_keeps : (t : Given) (s : State) (ps : List Param) (args : List CallArg)
    → files_fault t s ps args ≡ None → CallKeeps t ps args
call_keeps t s [] args free = tt
call_keeps t s (p ∷ ps) [] free = tt
call_keeps t s (p ∷ ps) (arg.File name ∷ args) free =
    let a = first_none (file_fault t s p (Some name)) (files_fault t s ps args) free in
    (file_apart t s p name a.0, call_keeps t s ps args a.1)
call_keeps t s (p ∷ ps) (arg.Int v ∷ args) free = call_keeps t s ps args free
call_keeps t s (p ∷ ps) (arg.Str b ∷ args) free = call_keeps t s ps args free
call_keeps t s (p ∷ ps) (arg.OutInt ∷ args) free = call_keeps t s ps args free
call_keeps t s (p ∷ ps) (arg.OutStr ∷ args) free = call_keeps t s ps args free

call_apart : (t : Given) (s : State) (ps : List Param) (args : List CallArg)
    → call_fault t s ps args ≡ None → CallKeeps t ps args
call_apart t s ps args free = call_keeps t s ps args
    (first_none (files_fault t s ps args)
    (option_or (fault_if (has_twice (written_in ps args)) SameOut)
    (option_or (fault_if (nat_le TASK_LIMIT s.tasks) TooManyTasks)
    (fault_if (nat_lt NAME_LIMIT (length (with_names s.names (files_in args)))) TooManyNames)))
    free).0

call_kept : (t : Given) (line op : ℕ) (hs : List Handed)
    → Kept t (do_call t line op (params_at t.ops op) hs)
call_kept t line op hs = step_keeps t
    (λ n s. passed_valued line (params_at t.ops op) hs s
    (calls t line op (params_at t.ops op) hs n))
    (λ n s h. passed_keeps t (params_at t.ops op) hs line
    (calls t line op (params_at t.ops op) hs n) s h
    (λ args u g. unless_keeps t (call_fault t u (params_at t.ops op) args) line u
    (calling line op hs args n (noting_all args u))
    (λ free. ask_keeps t line (Call op line args) numbered (λ u a. went a line hs n (numbered u))
    (noting_all args u) (call_apart t u (params_at t.ops op) args free)
    (λ a. went_kept t a line hs n (numbered (counted (noting_all args u))) g))))

call_at_kept : (t : Given) (line : ℕ) (op : Option ℕ) (args : List Passed)
    → Kept t (do_call_at t line op args)
call_at_kept t line None args n s h = h
call_at_kept t line (Some op) args n s h =
    call_kept t line op (all_handed (names_of t) (params_at t.ops op) args) n s h

-- ---- tests and loops

branch_kept : (t : Given) (b : Bool) (go other : Meaning) → Kept t go → Kept t other
    → Kept t (branch b go other)
branch_kept t true go other p k n s h = k n s h
branch_kept t false go other p k n s h = p n s h

tested_kept : (t : Given) (line : ℕ) (p : Placed) (go : Bool → Meaning)
    → ((b : Bool) → Kept t (go b)) → Kept t (tested line p go)
tested_kept t line p go k = value_kept t line p (λ n v u. go (is_zero (int_of v)) n u)
    (λ n v s h. k (is_zero (int_of v)) n s h)

and_then_kept : (t : Given) (body go : Meaning) → Kept t body → Kept t go
    → Kept t (λ n s. then_do (body n s) go)
and_then_kept t body go p k n s h = then_keeps t (body n s) go (p n s h) k

turns_kept : (t : Given) (k line : ℕ) (p : Placed) (body : Meaning) → Kept t body
    → Kept t (turns k line p body)
unfolding turns
turns_kept t zero line p body b n s h = tt
turns_kept t (suc k) line p body b n s h =
    tested_kept t line p
    (λ ends. branch ends (λ n s. then_do (body n s) (turns k line p body)) ended)
    (λ e. branch_kept t e (λ n s. then_do (body n s) (turns k line p body)) ended
    (and_then_kept t body (turns k line p body) b (turns_kept t k line p body b))
    (λ n s g. g)) n s h

setting_kept : (t : Given) (a : Setting) → Kept t (run_setting t a)
setting_kept t a n s h =
    set_kept t a.to.line (variable t a.to.text) (placed (names_of t) a.value) n s h

maybe_kept : (t : Given) (o : Option Setting) → Kept t (run_maybe t o)
maybe_kept t None n s h = h
maybe_kept t (Some a) n s h = setting_kept t a n s h

while_kept : (t : Given) (line : ℕ) (p : Placed) (body : Meaning) → Kept t body
    → Kept t (λ n s. turns (suc n) line p body n s)
while_kept t line p body b n s h = turns_kept t (suc n) line p body b n s h

mutual
  run_kept : (t : Given) (c : Code) → Kept t (run t c)
  run_kept t (empty line) n s h = step_keeps t ended (λ n s g. g) n s h
  run_kept t (block line body) n s h = run_all_kept t body n s h
  run_kept t (assign a) n s h = setting_kept t a n s h
  run_kept t (choose line test then_c else_c) n s h =
      tested_kept t line (placed (names_of t) test)
      (λ b. branch b (run_all t then_c) (run_else t else_c))
      (λ b. branch_kept t b (run_all t then_c) (run_else t else_c)
      (run_all_kept t then_c) (run_else_kept t else_c)) n s h
  run_kept t (while line test body) n s h =
      while_kept t line (placed (names_of t) test) (run_all t body) (run_all_kept t body) n s h
  run_kept t (for line first test last body) n s h =
      and_then_kept t (run_maybe t first)
      (λ n s. turns (suc n) line (placed (names_of t) (test_or_true test line))
      (λ n s. then_do (run_all t body n s) (run_maybe t last)) n s) (maybe_kept t first)
      (while_kept t line (placed (names_of t) (test_or_true test line))
      (λ n s. then_do (run_all t body n s) (run_maybe t last))
      (and_then_kept t (run_all t body) (run_maybe t last) (run_all_kept t body)
      (maybe_kept t last))) n s h
  run_kept t (open_file line to path m) n s h =
      open_kept t line (variable t to.text) (placed (names_of t) path) m n s h
  run_kept t (read_line line got_at handle to) n s h = step_keeps t
      (λ n s. reading line (variable t got_at.text) (variable t handle.text) (variable t to.text)
      (opened_at s (variable t handle.text)) n s)
      (λ n s g. reading_kept t line (variable t got_at.text) (variable t handle.text)
      (variable t to.text) (opened_at s (variable t handle.text))
      (handle_keeps t s.handles (variable t handle.text) g) n s g) n s h
  run_kept t (close_file line handle) n s h = step_keeps t
      (λ n s. closing line (variable t handle.text) (opened_at s (variable t handle.text)) n s)
      (λ n s g. closing_kept t line (variable t handle.text)
      (opened_at s (variable t handle.text))
      (handle_keeps t s.handles (variable t handle.text) g) n s g) n s h
  run_kept t (barrier line) n s h = step_keeps t
      (λ n s. action line s (λ u. Ask Barrier u (λ a. Done n u)))
      (λ n s g. ask_keeps t line Barrier (λ u. u) (λ u a. Done n u) s tt (λ a. g)) n s h
  run_kept t (print line format args) n s h =
      print_kept t line format.text (all_placed (names_of t) args) n s h
  run_kept t (print_file line handle format args) n s h =
      values_kept t line (all_placed (names_of t) args)
      (λ n vs u. writing line (variable t handle.text) (formatted format.text vs)
      (opened_at u (variable t handle.text)) n u)
      (λ n vs u g. writing_kept t line (variable t handle.text) (formatted format.text vs)
      (opened_at u (variable t handle.text))
      (handle_keeps t u.handles (variable t handle.text) g) n u g) n s h
  run_kept t (print_str line to format args) n s h =
      print_str_kept t line (variable t to.text) format.text (all_placed (names_of t) args) n s h
  run_kept t (call op args) n s h =
      call_at_kept t op.line (op_place t.ops op.text) args n s h

  run_all_kept : (t : Given) (cs : Codes) → Kept t (run_all t cs)
  run_all_kept t none n s h = h
  run_all_kept t (one c cs) n s h =
      and_then_kept t (run t c) (run_all t cs) (run_kept t c) (run_all_kept t cs) n s h

  run_else_kept : (t : Given) (cs : MaybeCodes) → Kept t (run_else t cs)
  run_else_kept t without n s h = h
  run_else_kept t (otherwise body) n s h = run_all_kept t body n s h

-- ---- a whole program

first_kept : (t : Given) (settings : List Setting) → Kept t (run_first t settings)
first_kept t [] n s h = h
first_kept t (a ∷ more) n s h = and_then_kept t (run_setting t a) (run_first t more)
    (setting_kept t a) (first_kept t more) n s h

settled_keeps : (t : Given) (vars : List Slot) (line i : ℕ) (s : State) → HandlesKeep t s.handles
    → Keeps t (settled line i vars s)
settled_keeps t [] line i s h = tt
settled_keeps t (Held v ∷ vars) line i s h = settled_keeps t vars line (suc i) s h
settled_keeps t (Due n k ∷ vars) line i s h =
    used_keeps t line i n k (λ v u. settled line (suc i) vars u) s h
    (λ v u g. settled_keeps t vars line (suc i) u g)

leaving_keeps : (t : Given) (b : Bool) (line : ℕ) (s : State) → HandlesKeep t s.handles
    → Keeps t (leaving line b s)
leaving_keeps t true line s h = tt
leaving_keeps t false line s h = settled_keeps t s.vars line 0 s h

finish_kept : (t : Given) (line : ℕ) → Kept t (finish line)
finish_kept t line = step_keeps t (λ n s. leaving line (list_any is_some s.handles) s)
    (λ n s h. leaving_keeps t (list_any is_some s.handles) line s h)

none_open : {V : Type 0} (t : Given) (vars : List V) → HandlesKeep t (map (λ v. None) vars)
none_open t [] = tt
none_open t (v ∷ vars) = (tt, none_open t vars)

pub dialogue_keeps : (t : Given) (fuel : ℕ) → Keeps t (dialogue t fuel)
dialogue_keeps t fuel =
    and_then_kept t (run_first t t.program.first)
    (λ n s. then_do (step ended n s) (λ n s. then_do (run_all t t.program.body n s)
    (finish t.program.off))) (first_kept t t.program.first)
    (and_then_kept t (step ended)
    (λ n s. then_do (run_all t t.program.body n s) (finish t.program.off))
    (step_keeps t ended (λ n s h. h))
    (and_then_kept t (run_all t t.program.body) (finish t.program.off)
    (run_all_kept t t.program.body) (finish_kept t t.program.off))) fuel (start t)
    (none_open t t.program.vars)
