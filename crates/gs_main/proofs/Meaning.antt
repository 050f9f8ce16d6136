-- Orders that say a program mean what the program means.
use Rattle.std.proofs.Common.{◌≡◌, ◌<◌, ◌≤◌, ℕ, zero, suc, Bool, true, false, refl, sym, ap, ◌∙◌, List, [], ◌∷◌, Option, Some, None, arith}
use mathlib.Core.Path.{fun_ext}
use Rattle.gs_idl.specs.Interface.{op_place, params_at}
use Rattle.gs_tree.specs.Program.{Setting, Passed, Code, empty, block, set as assign, choose, while, for, open_file, read_line, close_file, barrier, print, print_file, print_str, call, Codes, none, one, MaybeCodes, without, otherwise}
use Rattle.gs_talk.specs.Terms.{Placed, place_of, placed, all_placed}
use Rattle.gs_talk.specs.Values.{is_zero, int_of}
use Rattle.gs_talk.specs.Talk.{Given, names_of, State, Dialogue, Stop, Meaning, then_do, valued, step, tested, branch, ended, turns, test_or_true, run_setting, run_maybe, variable, run, run_all, run_else, do_call_at, all_handed, run_first, finish, dialogue, start}
use Rattle.gs_talk.specs.declared.question.Question.TheVariants.{FuelOut}
use Rattle.gs_orders.specs.declared.order.Order.{Order}
use Rattle.gs_orders.specs.Steps.{Step, skip, put, test, load, fetch, save, wait, show, show_in, show_to, send, leave, step_at}
use Rattle.gs_orders.specs.Says.{scene, Says, SaysAll, SaysElse, SaysMaybe, SaysSetting, SaysCall, SaysFirst, SaysProgram, IsAt}
use Rattle.gs_main.specs.Meanings.{assigning, showing, showing_to, showing_in, loading, fetching, saving, pausing, sending}
use Rattle.gs_main.specs.Machine.{Onward, obeyed, goes}
use Rattle.gs_main.proofs.Ending.{then_assoc, then_same, then_valued}
use Rattle.gs_main.proofs.Leaving.{Is, Exact, exact_assigning, exact_showing, exact_showing_to, exact_showing_in, exact_loading, exact_fetching, exact_saving, exact_pausing, exact_sending}
use Rattle.gs_main.proofs.Within.{AtMost, Within, one_turn, all_within, turn_within}

pub no_step : (t : Given) (orders : List Order) (at : ℕ) (s : State) → goes t orders at zero s ≡ Stop FuelOut s
unfolding goes
no_step t orders at s = refl

pub one_step : (t : Given) (orders : List Order) (at n : ℕ) (s : State) → goes t orders at (suc n) s ≡ obeyed t (step_at orders at) n s (λ next u. goes t orders next n u)
unfolding goes
one_step t orders at n s = refl

-- with a step left, by the order that stands there
pub at_order : (t : Given) (orders : List Order) (at n : ℕ) (s : State) (st : Step) → IsAt orders at st → goes t orders at (suc n) s ≡ obeyed t (Some st) n s (λ next u. goes t orders next n u)
at_order t orders at n s st e = one_step t orders at n s ∙ ap (λ (o : Option Step). obeyed t o n s (λ next u. goes t orders next n u)) e

-- an order that does m and goes on at `next`
abbrev pub Leaf : Given → Step → Meaning → ℕ → Type 0
Leaf t st m next = (n : ℕ) (s : State) (go : Onward) → obeyed t (Some st) n s go ≡ then_do (m n s) (λ i u. go next u)

pub leaf_after : (t : Given) (orders : List Order) (at next : ℕ) (st : Step) (m : Meaning) → IsAt orders at st → Leaf t st m next → Exact m → (n : ℕ) (s : State) → goes t orders at (suc n) s ≡ then_do (m n s) (goes t orders next)
leaf_after t orders at next st m e leaf exact n s =
    at_order t orders at n s st e
    ∙ leaf n s (λ next u. goes t orders next n u)
    ∙ then_same (Is n) (m n s) (λ i u. goes t orders next n u) (goes t orders next) (exact n s) (λ i u is. ap (λ (j : ℕ). goes t orders next j u) (sym is))

leaf_here : (t : Given) (orders : List Order) (at next : ℕ) (st : Step) (m : Meaning) → IsAt orders at st → Leaf t st m next → Exact m → (n : ℕ) (s : State) → goes t orders at n s ≡ then_do (step m n s) (goes t orders next)
leaf_here t orders at next st m e leaf exact zero s = no_step t orders at s
leaf_here t orders at next st m e leaf exact (suc n) s = leaf_after t orders at next st m e leaf exact n s

-- the orders from here on mean m, and then those from `next` on
abbrev Means : Given → List Order → (here : ℕ) → Meaning → (next : ℕ) → Type 0
Means t orders here m next = (n : ℕ) (s : State) → goes t orders here n s ≡ then_do (m n s) (goes t orders next)

nothing_here : (t : Given) (orders : List Order) (here next : ℕ) → here ≡ next → Means t orders here ended next
nothing_here t orders here next e n s = ap (λ (i : ℕ). goes t orders i n s) e

then_means : (t : Given) (orders : List Order) (here between next : ℕ) (m k : Meaning) → Means t orders here m between → Means t orders between k next → Means t orders here (λ n s. then_do (m n s) k) next
then_means t orders here between next m k h j n s =
    h n s ∙ ap (then_do (m n s)) (fun_ext (λ i. fun_ext (λ u. j i u))) ∙ sym (then_assoc (m n s) k (goes t orders next))

setting_means : (t : Given) (orders : List Order) (here : ℕ) (a : Setting) (next : ℕ) → SaysSetting (scene (names_of t) t.ops) orders here a next → Means t orders here (run_setting t a) next
setting_means t orders here a next says =
    let to = place_of (names_of t) a.to.text in
    let v = placed (names_of t) a.value in
    leaf_here t orders here next (put a.to.line to v next) (assigning a.to.line to v) says (λ n s go. refl) (exact_assigning a.to.line to v)

maybe_means : (t : Given) (orders : List Order) (here : ℕ) (a : Option Setting) (next : ℕ) → SaysMaybe (scene (names_of t) t.ops) orders here a next → Means t orders here (run_maybe t a) next
maybe_means t orders here None next says = nothing_here t orders here next says
maybe_means t orders here (Some a) next says = setting_means t orders here a next says

-- ---- tests and loops

-- a test goes one way or the other
abbrev Ways : Given → List Order → (then_at else_at n : ℕ) → Bool → State → Dialogue
Ways t orders then_at else_at n b u = branch b (λ m w. goes t orders then_at n w) (λ m w. goes t orders else_at n w) n u

test_means : (t : Given) (orders : List Order) (here line : ℕ) (v : Placed) (then_at else_at : ℕ) (go : Bool → Meaning) (next : ℕ) → IsAt orders here (test line v then_at else_at) →
    ((b : Bool) (n : ℕ) (s : State) → Ways t orders then_at else_at n b s ≡ then_do (go b n s) (goes t orders next)) → Means t orders here (tested line v go) next
test_means t orders here line v then_at else_at go next e h zero s = no_step t orders here s
test_means t orders here line v then_at else_at go next e h (suc n) s =
    at_order t orders here n s (test line v then_at else_at) e
    ∙ ap (valued line v s) (fun_ext (λ x. fun_ext (λ u. h (is_zero (int_of x)) n u)))
    ∙ sym (then_valued v line s (λ x u. go (is_zero (int_of x)) n u) (goes t orders next))

choose_ways : (t : Given) (orders : List Order) (then_at else_at : ℕ) (m k : Meaning) (next : ℕ) → Means t orders then_at m next → Means t orders else_at k next → (b : Bool) (n : ℕ) (s : State) → Ways t orders then_at else_at n b s ≡ then_do (branch b m k n s) (goes t orders next)
choose_ways t orders then_at else_at m k next h j true n s = j n s
choose_ways t orders then_at else_at m k next h j false n s = h n s

-- a turn of a loop, where the turns after it go so
turn_goes : (k : ℕ) (t : Given) (orders : List Order) (here line : ℕ) (v : Placed) (then_at else_at : ℕ) (body : Meaning) → IsAt orders here (test line v then_at else_at) → Within body → Means t orders then_at body here → (n : ℕ) (s : State) →
    ((i : ℕ) (x : State) → i ≤ n → goes t orders here i x ≡ then_do (turns k line v body i x) (goes t orders else_at)) → goes t orders here (suc n) s ≡ then_do (turns (suc k) line v body (suc n) s) (goes t orders else_at)
turn_goes k t orders here line v then_at else_at body e w h n s more =
    at_order t orders here n s (test line v then_at else_at) e
    ∙ ap (valued line v s) (fun_ext (λ x. fun_ext (λ u. way (is_zero (int_of x)) u)))
    ∙ sym (then_valued v line s (λ x u. branch (is_zero (int_of x)) (λ n s. then_do (body n s) (turns k line v body)) ended n u) (goes t orders else_at))
    ∙ sym (ap (λ (d : Dialogue). then_do d (goes t orders else_at)) (one_turn k line v body (suc n) s))
  where
    way : (b : Bool) (u : State) → Ways t orders then_at else_at n b u ≡ then_do (branch b (λ n s. then_do (body n s) (turns k line v body)) ended n u) (goes t orders else_at)
    way true u = refl
    way false u =
        h n u
        ∙ then_same (AtMost n) (body n u) (goes t orders here) (λ i w. then_do (turns k line v body i w) (goes t orders else_at)) (w n u) more
        ∙ sym (then_assoc (body n u) (turns k line v body) (goes t orders else_at))

-- with fewer steps than turns that are allowed
loop_goes : (bound k : ℕ) (t : Given) (orders : List Order) (here line : ℕ) (v : Placed) (then_at else_at : ℕ) (body : Meaning) → IsAt orders here (test line v then_at else_at) → Within body → Means t orders then_at body here → (n : ℕ) (s : State) → n < bound → n < k →
    goes t orders here n s ≡ then_do (turns k line v body n s) (goes t orders else_at)
loop_goes zero k t orders here line v then_at else_at body e w h n s lt below = absurd (omega arith)
loop_goes (suc bound) zero t orders here line v then_at else_at body e w h n s lt below = absurd (omega arith)
loop_goes (suc bound) (suc k) t orders here line v then_at else_at body e w h zero s lt below =
    no_step t orders here s ∙ sym (ap (λ (d : Dialogue). then_do d (goes t orders else_at)) (one_turn k line v body zero s))
loop_goes (suc bound) (suc k) t orders here line v then_at else_at body e w h (suc n) s lt below =
    turn_goes k t orders here line v then_at else_at body e w h n s
    (λ i x le. loop_goes bound k t orders here line v then_at else_at body e w h i x (omega (arith, le)) (omega (arith, le)))

loop_means : (t : Given) (orders : List Order) (here line : ℕ) (v : Placed) (then_at else_at : ℕ) (body : Meaning) → IsAt orders here (test line v then_at else_at) → Within body → Means t orders then_at body here → Means t orders here (λ n s. turns (suc n) line v body n s) else_at
loop_means t orders here line v then_at else_at body e w h n s = loop_goes (suc n) (suc n) t orders here line v then_at else_at body e w h n s (omega arith) (omega arith)

-- ---- statements

call_means : (t : Given) (orders : List Order) (here line : ℕ) (op : Option ℕ) (args : List Passed) (next : ℕ) → SaysCall (scene (names_of t) t.ops) orders here line op args next → Means t orders here (do_call_at t line op args) next
call_means t orders here line None args next says = nothing_here t orders here next says
call_means t orders here line (Some op) args next says =
    let handed = all_handed (names_of t) (params_at t.ops op) args in
    leaf_here t orders here next (send line op handed next) (sending t line op handed) says (λ n s go. refl) (exact_sending t line op handed)

mutual
  code_means : (c : Code) (t : Given) (orders : List Order) (here next : ℕ) → Says (scene (names_of t) t.ops) orders here c next → Means t orders here (run t c) next
  code_means (empty line) t orders here next says n s = leaf_here t orders here next (skip line next) ended says (λ n s go. refl) (λ n s. refl) n s
  code_means (block line body) t orders here next says n s = all_mean body t orders here next says n s
  code_means (assign a) t orders here next says n s = setting_means t orders here a next says n s
  code_means (choose line v then_c else_c) t orders here next says n s =
      test_means t orders here line (placed (names_of t) v) says.0 says.1 (λ b. branch b (run_all t then_c) (run_else t else_c)) next says.2
      (choose_ways t orders says.0 says.1 (run_all t then_c) (run_else t else_c) next (all_mean then_c t orders says.0 next says.3) (else_means else_c t orders says.1 next says.4)) n s
  code_means (while line v body) t orders here next says n s =
      loop_means t orders here line (placed (names_of t) v) says.0 next (run_all t body) says.1 (all_within t body) (all_mean body t orders says.0 here says.2) n s
  code_means (for line first v step_ body) t orders here next says n s =
      let test_v = placed (names_of t) (test_or_true v line) in
      let turn : Meaning = λ n s. then_do (run_all t body n s) (run_maybe t step_) in
      then_means t orders here says.0 next (run_maybe t first) (λ n s. turns (suc n) line test_v turn n s) (maybe_means t orders here first says.0 says.3)
      (loop_means t orders says.0 line test_v says.1 next turn says.4 (turn_within t body step_)
      (then_means t orders says.1 says.2 says.0 (run_all t body) (run_maybe t step_) (all_mean body t orders says.1 says.2 says.5) (maybe_means t orders says.2 step_ says.0 says.6))) n s
  code_means (open_file line to path mode) t orders here next says n s =
      let i = variable t to.text in
      let v = placed (names_of t) path in
      leaf_here t orders here next (load line i v mode next) (loading t line i v mode) says (λ n s go. refl) (exact_loading t line i v mode) n s
  code_means (read_line line got_at handle to) t orders here next says n s =
      let g = variable t got_at.text in
      let i = variable t handle.text in
      let j = variable t to.text in
      leaf_here t orders here next (fetch line g i j next) (fetching line g i j) says (λ n s go. refl) (exact_fetching line g i j) n s
  code_means (close_file line handle) t orders here next says n s =
      let i = variable t handle.text in
      leaf_here t orders here next (save line i next) (saving line i) says (λ n s go. refl) (exact_saving line i) n s
  code_means (barrier line) t orders here next says n s = leaf_here t orders here next (wait line next) (pausing line) says (λ n s go. refl) (exact_pausing line) n s
  code_means (print line format args) t orders here next says n s =
      let vs = all_placed (names_of t) args in
      leaf_here t orders here next (show line format.text vs next) (showing line format.text vs) says (λ n s go. refl) (exact_showing line format.text vs) n s
  code_means (print_file line handle format args) t orders here next says n s =
      let vs = all_placed (names_of t) args in
      let i = variable t handle.text in
      leaf_here t orders here next (show_in line i format.text vs next) (showing_in line i format.text vs) says (λ n s go. refl) (exact_showing_in line i format.text vs) n s
  code_means (print_str line to format args) t orders here next says n s =
      let vs = all_placed (names_of t) args in
      let i = variable t to.text in
      leaf_here t orders here next (show_to line i format.text vs next) (showing_to line i format.text vs) says (λ n s go. refl) (exact_showing_to line i format.text vs) n s
  code_means (call op args) t orders here next says n s = call_means t orders here op.line (op_place t.ops op.text) args next says n s

  all_mean : (cs : Codes) (t : Given) (orders : List Order) (here next : ℕ) → SaysAll (scene (names_of t) t.ops) orders here cs next → Means t orders here (run_all t cs) next
  all_mean none t orders here next says n s = nothing_here t orders here next says n s
  all_mean (one c cs) t orders here next says n s =
      then_means t orders here says.0 next (run t c) (run_all t cs) (code_means c t orders here says.0 says.1) (all_mean cs t orders says.0 next says.2) n s

  else_means : (cs : MaybeCodes) (t : Given) (orders : List Order) (here next : ℕ) → SaysElse (scene (names_of t) t.ops) orders here cs next → Means t orders here (run_else t cs) next
  else_means without t orders here next says n s = nothing_here t orders here next says n s
  else_means (otherwise body) t orders here next says n s = all_mean body t orders here next says n s

-- ---- a whole program

first_means : (first : List Setting) (t : Given) (orders : List Order) (here next : ℕ) → SaysFirst (scene (names_of t) t.ops) orders here first next → Means t orders here (run_first t first) next
first_means [] t orders here next says n s = nothing_here t orders here next says n s
first_means (a ∷ more) t orders here next says n s =
    then_means t orders here says.0 next (run_setting t a) (run_first t more) (setting_means t orders here a says.0 says.1) (first_means more t orders says.0 next says.2) n s

leave_means : (t : Given) (orders : List Order) (here line : ℕ) → IsAt orders here (leave line) → (n : ℕ) (s : State) → goes t orders here n s ≡ finish line n s
leave_means t orders here line e zero s = no_step t orders here s
leave_means t orders here line e (suc n) s = at_order t orders here n s (leave line) e

-- the orders of a program go as the program does
pub program_goes : (t : Given) (orders : List Order) (at fuel : ℕ) → SaysProgram (scene (names_of t) t.ops) orders at t.program → goes t orders at fuel (start t) ≡ dialogue t fuel
program_goes t orders at fuel says =
    let p = t.program in
    let body : (n : ℕ) (s : State) → goes t orders says.body_at n s ≡ then_do (run_all t p.body n s) (finish p.off) = λ n s.
    all_mean p.body t orders says.body_at says.off says.body n s ∙ ap (then_do (run_all t p.body n s)) (fun_ext (λ i. fun_ext (λ u. leave_means t orders says.off p.off says.ends i u))) in
    let on : (n : ℕ) (s : State) → goes t orders says.on n s ≡ then_do (step ended n s) (λ n s. then_do (run_all t p.body n s) (finish p.off)) = λ n s.
    leaf_here t orders says.on says.body_at (skip 0 says.body_at) ended says.begins (λ n s go. refl) (λ n s. refl) n s ∙ ap (then_do (step ended n s)) (fun_ext (λ i. fun_ext (λ u. body i u))) in
    first_means p.first t orders at says.on says.first fuel (start t) ∙ ap (then_do (run_first t p.first fuel (start t))) (fun_ext (λ i. fun_ext (λ u. on i u)))
