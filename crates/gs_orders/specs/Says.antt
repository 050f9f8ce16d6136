-- Where a list of orders says a program.
use Rattle.std.specs.Prelude.{◌≡◌, ℕ, List, [], ◌∷◌, Option, Some, None}
use Rattle.gs_idl.specs.Interface.{Signature, op_place, params_at}
use Rattle.gs_tree.specs.Program.{Name, Setting, Passed, Code, empty, block, set, choose, while, for, open_file, read_line, close_file, barrier, print, print_file, print_str, call, Codes, none, one, MaybeCodes, without, otherwise, Program}
use Rattle.gs_talk.specs.Terms.{place_of, placed, all_placed}
use Rattle.gs_talk.specs.Talk.{all_handed, test_or_true}
use Rattle.gs_orders.specs.declared.order.Order.{Order}
use Rattle.gs_orders.specs.Steps.{Step, skip, put, test, load, fetch, save, wait, show, show_in, show_to, send, leave, step_at}

-- the names of the variables, in the order of their declaration, and the operations
pub record Scene : Type 0 where
  pub names : List (List ℕ)
  pub ops : List Signature

abbrev pub scene : List (List ℕ) → List Signature → Scene
scene names ops = record { names = names; ops = ops }

abbrev pub variable : Scene → Name → ℕ
variable sc name = place_of sc.names name.text

-- this order stands here
abbrev pub IsAt : List Order → (here : ℕ) → Step → Type 0
IsAt orders here st = step_at orders here ≡ Some st

-- the orders from `here` on say this, and go on at `next`
abbrev pub SaysSetting : Scene → List Order → (here : ℕ) → Setting → (next : ℕ) → Type 0
SaysSetting sc orders here a next = IsAt orders here
    (put a.to.line (variable sc a.to) (placed sc.names a.value) next)

abbrev pub SaysMaybe : Scene → List Order → (here : ℕ) → Option Setting → (next : ℕ) → Type 0
SaysMaybe sc orders here None next = here ≡ next
SaysMaybe sc orders here (Some a) next = SaysSetting sc orders here a next

-- a call of an operation that there isn't does nothing
abbrev pub SaysCall : Scene → List Order → (here line : ℕ) → Option ℕ → List Passed → (next : ℕ)
    → Type 0
SaysCall sc orders here line None args next = here ≡ next
SaysCall sc orders here line (Some op) args next = IsAt orders here
    (send line op (all_handed sc.names (params_at sc.ops op) args) next)

abbrev mutual
  pub Says : Scene → List Order → (here : ℕ) → Code → (next : ℕ) → Type 0
  Says sc orders here (empty line) next = IsAt orders here (skip line next)
  Says sc orders here (block line body) next = SaysAll sc orders here body next
  Says sc orders here (set a) next = SaysSetting sc orders here a next
  Says sc orders here (choose line t then_do else_do) next =
      (then_at : ℕ) × (else_at : ℕ)
      × IsAt orders here (test line (placed sc.names t) then_at else_at)
      × SaysAll sc orders then_at then_do next × SaysElse sc orders else_at else_do next
  Says sc orders here (while line t body) next =
      (then_at : ℕ) × IsAt orders here (test line (placed sc.names t) then_at next)
      × SaysAll sc orders then_at body here
  Says sc orders here (for line first t step body) next =
      (test_at : ℕ) × (then_at : ℕ) × (step_at_ : ℕ) × SaysMaybe sc orders here first test_at
      × IsAt orders test_at (test line (placed sc.names (test_or_true t line)) then_at next)
      × SaysAll sc orders then_at body step_at_ × SaysMaybe sc orders step_at_ step test_at
  Says sc orders here (open_file line to path mode) next = IsAt orders here
      (load line (variable sc to) (placed sc.names path) mode next)
  Says sc orders here (read_line line got handle to) next =
      IsAt orders here (fetch line (variable sc got) (variable sc handle) (variable sc to) next)
  Says sc orders here (close_file line handle) next = IsAt orders here
      (save line (variable sc handle) next)
  Says sc orders here (barrier line) next = IsAt orders here (wait line next)
  Says sc orders here (print line format args) next = IsAt orders here
      (show line format.text (all_placed sc.names args) next)
  Says sc orders here (print_file line handle format args) next =
      IsAt orders here (show_in line (variable sc handle) format.text (all_placed sc.names args)
      next)
  Says sc orders here (print_str line to format args) next =
      IsAt orders here (show_to line (variable sc to) format.text (all_placed sc.names args) next)
  Says sc orders here (call op args) next = SaysCall sc orders here op.line
      (op_place sc.ops op.text) args next

  pub SaysAll : Scene → List Order → (here : ℕ) → Codes → (next : ℕ) → Type 0
  SaysAll sc orders here none next = here ≡ next
  SaysAll sc orders here (one c cs) next = (between : ℕ) × Says sc orders here c between
      × SaysAll sc orders between cs next

  pub SaysElse : Scene → List Order → (here : ℕ) → MaybeCodes → (next : ℕ) → Type 0
  SaysElse sc orders here without next = here ≡ next
  SaysElse sc orders here (otherwise body) next = SaysAll sc orders here body next

abbrev pub SaysFirst : Scene → List Order → (here : ℕ) → List Setting → (next : ℕ) → Type 0
SaysFirst sc orders here [] next = here ≡ next
SaysFirst sc orders here (a ∷ more) next = (between : ℕ) × SaysSetting sc orders here a between
    × SaysFirst sc orders between more next

-- the whole program: its initial assignments, GS_On, its statements, and GS_Off
pub record SaysProgram (sc : Scene) (orders : List Order) (start : ℕ) (p : Program) : Type 0 where
  pub on : ℕ
  pub body_at : ℕ
  pub off : ℕ
  pub first : SaysFirst sc orders start p.first on
  pub begins : IsAt orders on (skip 0 body_at)
  pub body : SaysAll sc orders body_at p.body off
  pub ends : IsAt orders off (leave p.off)
