-- A statement leaves at most as many steps as it was given.
use Rattle.std.proofs.Common.{◌≡◌, ◌≤◌, ℕ, zero, suc, Bool, true, false, refl, subst, sym, List, Option, Some, None, arith, le_refl}
use Rattle.gs_idl.specs.Interface.{op_place, params_at}
use Rattle.gs_tree.specs.Program.{Setting, Passed, Code, empty, block, set as assign, choose, while, for, open_file, read_line, close_file, barrier, print, print_file, print_str, call, Codes, none, one, MaybeCodes, without, otherwise}
use Rattle.gs_talk.specs.Terms.{Placed, place_of, placed, all_placed}
use Rattle.gs_talk.specs.Values.{is_zero, int_of}
use Rattle.gs_talk.specs.Talk.{Given, names_of, State, Dialogue, Stop, Meaning, then_do, step, tested, branch, ended, turns, test_or_true, run_setting, run_maybe, variable, run, run_all, run_else, do_call_at, all_handed}
use Rattle.gs_talk.specs.declared.question.Question.TheVariants.{FuelOut}
use Rattle.gs_main.proofs.Ending.{Ends, ends_then, ends_wider, ends_valued}
use Rattle.gs_main.proofs.Leaving.{Is, Exact, exact_assigning, exact_showing, exact_showing_to, exact_showing_in, exact_loading, exact_fetching, exact_saving, exact_pausing, exact_sending}
use Rattle.gs_main.specs.Meanings.{assigning, showing, showing_to, showing_in, loading, fetching, saving, pausing, sending}

abbrev pub AtMost : ℕ → ℕ → Type 0
AtMost n i = i ≤ n

abbrev pub Within : Meaning → Type 0
Within m = (n : ℕ) (s : State) → Ends (AtMost n) (m n s)

step_within : (m : Meaning) → Exact m → Within (step m)
step_within m h zero s = tt
step_within m h (suc n) s = ends_wider (Is n) (AtMost (suc n)) (m n s) (λ i e. omega (arith, e)) (h n s)

pub done_within : Within ended
done_within n s = le_refl n

tested_within : (line : ℕ) (v : Placed) (go : Bool → Meaning) → ((b : Bool) → Within (go b)) → Within (tested line v go)
tested_within line v go h zero s = tt
tested_within line v go h (suc n) s =
    ends_valued (AtMost (suc n)) v line s (λ x u. go (is_zero (int_of x)) n u)
    (λ x u. ends_wider (AtMost n) (AtMost (suc n)) (go (is_zero (int_of x)) n u) (λ i le. omega (arith, le)) (h (is_zero (int_of x)) n u))

then_within : (m go : Meaning) → Within m → Within go → Within (λ n s. then_do (m n s) go)
then_within m go h k n s = ends_then (AtMost n) (AtMost n) (m n s) go (h n s) (λ i u le. ends_wider (AtMost i) (AtMost n) (go i u) (λ j lj. omega (arith, lj, le)) (k i u))

branch_within : (b : Bool) (go other : Meaning) → Within go → Within other → Within (branch b go other)
branch_within true go other h k n s = k n s
branch_within false go other h k n s = h n s

pub no_turn : (line : ℕ) (v : Placed) (body : Meaning) (n : ℕ) (s : State) → turns zero line v body n s ≡ Stop FuelOut s
unfolding turns
no_turn line v body n s = refl

pub one_turn : (k line : ℕ) (v : Placed) (body : Meaning) (n : ℕ) (s : State) → turns (suc k) line v body n s ≡ tested line v (λ ends. branch ends (λ n s. then_do (body n s) (turns k line v body)) ended) n s
unfolding turns
one_turn k line v body n s = refl

turns_within : (k line : ℕ) (v : Placed) (body : Meaning) → Within body → Within (turns k line v body)
turns_within zero line v body h n s = subst (λ (d : Dialogue). Ends (AtMost n) d) (sym (no_turn line v body n s)) tt
turns_within (suc k) line v body h n s =
    subst (λ (d : Dialogue). Ends (AtMost n) d) (sym (one_turn k line v body n s))
    (tested_within line v (λ ends. branch ends (λ n s. then_do (body n s) (turns k line v body)) ended)
    (λ b. branch_within b (λ n s. then_do (body n s) (turns k line v body)) ended (then_within body (turns k line v body) h (turns_within k line v body h)) done_within) n s)

setting_within : (t : Given) (a : Setting) → Within (run_setting t a)
setting_within t a = step_within (assigning a.to.line (place_of (names_of t) a.to.text) (placed (names_of t) a.value)) (exact_assigning a.to.line (place_of (names_of t) a.to.text) (placed (names_of t) a.value))

maybe_within : (t : Given) (a : Option Setting) → Within (run_maybe t a)
maybe_within t None n s = le_refl n
maybe_within t (Some a) n s = setting_within t a n s

call_within : (t : Given) (line : ℕ) (op : Option ℕ) (args : List Passed) → Within (do_call_at t line op args)
call_within t line None args n s = le_refl n
call_within t line (Some op) args n s =
    let handed = all_handed (names_of t) (params_at t.ops op) args in
    step_within (sending t line op handed) (exact_sending t line op handed) n s

mutual
  run_within : (t : Given) (c : Code) → Within (run t c)
  run_within t (empty line) n s = step_within ended (λ n s. refl) n s
  run_within t (block line body) n s = all_within t body n s
  run_within t (assign a) n s = setting_within t a n s
  run_within t (choose line test then_c else_c) n s =
      tested_within line (placed (names_of t) test) (λ b. branch b (run_all t then_c) (run_else t else_c)) (λ b. branch_within b (run_all t then_c) (run_else t else_c) (all_within t then_c) (else_within t else_c)) n s
  run_within t (while line test body) n s = turns_within (suc n) line (placed (names_of t) test) (run_all t body) (all_within t body) n s
  run_within t (for line first test step_ body) n s =
      let v = placed (names_of t) (test_or_true test line) in
      let turn : Meaning = λ n s. then_do (run_all t body n s) (run_maybe t step_) in
      then_within (run_maybe t first) (λ n s. turns (suc n) line v turn n s) (maybe_within t first)
      (λ n s. turns_within (suc n) line v turn (then_within (run_all t body) (run_maybe t step_) (all_within t body) (maybe_within t step_)) n s) n s
  run_within t (open_file line to path mode) n s =
      step_within (loading t line (variable t to.text) (placed (names_of t) path) mode) (exact_loading t line (variable t to.text) (placed (names_of t) path) mode) n s
  run_within t (read_line line got_at handle to) n s =
      step_within (fetching line (variable t got_at.text) (variable t handle.text) (variable t to.text)) (exact_fetching line (variable t got_at.text) (variable t handle.text) (variable t to.text)) n s
  run_within t (close_file line handle) n s = step_within (saving line (variable t handle.text)) (exact_saving line (variable t handle.text)) n s
  run_within t (barrier line) n s = step_within (pausing line) (exact_pausing line) n s
  run_within t (print line format args) n s = step_within (showing line format.text (all_placed (names_of t) args)) (exact_showing line format.text (all_placed (names_of t) args)) n s
  run_within t (print_file line handle format args) n s =
      step_within (showing_in line (variable t handle.text) format.text (all_placed (names_of t) args)) (exact_showing_in line (variable t handle.text) format.text (all_placed (names_of t) args)) n s
  run_within t (print_str line to format args) n s =
      step_within (showing_to line (variable t to.text) format.text (all_placed (names_of t) args)) (exact_showing_to line (variable t to.text) format.text (all_placed (names_of t) args)) n s
  run_within t (call op args) n s = call_within t op.line (op_place t.ops op.text) args n s

  pub all_within : (t : Given) (cs : Codes) → Within (run_all t cs)
  all_within t none n s = le_refl n
  all_within t (one c cs) n s = then_within (run t c) (run_all t cs) (run_within t c) (all_within t cs) n s

  else_within : (t : Given) (cs : MaybeCodes) → Within (run_else t cs)
  else_within t without n s = le_refl n
  else_within t (otherwise body) n s = all_within t body n s

pub turn_within : (t : Given) (body : Codes) (a : Option Setting) → Within (λ n s. then_do (run_all t body n s) (run_maybe t a))
turn_within t body a = then_within (run_all t body) (run_maybe t a) (all_within t body) (maybe_within t a)
