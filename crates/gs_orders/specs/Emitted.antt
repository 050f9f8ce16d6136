-- Orders that were made.
use Rattle.std.specs.Prelude.{◌≡◌, ℕ, ◌≤◌, ◌<◌, List, [], ◌∷◌, ◌++◌, length, slice_get, Option, Some, None, Result, IfOk}
use Rattle.std.specs.declared.vec.Vec.{Vec}
use Rattle.std.specs.declared.alloc.Global.{Global}
use Rattle.gs_tree.specs.declared.tree.Stmt.{Stmt}
use Rattle.gs_tree.specs.View.{codes_of}
use Rattle.gs_talk.specs.Terms.{placed}
use Rattle.gs_tree.specs.Program.{Term, Setting, Code, Codes}
use Rattle.gs_orders.specs.Says.{Scene, Says, SaysAll, SaysMaybe, SaysFirst, IsAt}
use Rattle.gs_orders.specs.Steps.{test}
use Rattle.gs_orders.specs.declared.order.Order.{Order}
use Rattle.gs_types.specs.declared.memory.NoMemory.{NoMemory}

-- b has a's orders from one place to another
abbrev pub Agrees : (from to : ℕ) → List Order → List Order → Type 0
Agrees from to a b = (i : ℕ) → from ≤ i → i < to → slice_get b i ≡ slice_get a i

-- the orders that were there stay
abbrev pub Kept : List Order → List Order → Type 0
Kept old new = (length old ≤ length new) × ((i : ℕ) → i < length old
    → slice_get new i ≡ slice_get old i)

abbrev pub Added : List Order → (here : ℕ) → Order → List Order → Type 0
Added old here o new = (here ≡ length old) × (new ≡ old ++ o ∷ [])

-- whatever stands elsewhere, what was added says this
abbrev pub Wrote : Scene → List Order → (here : ℕ) → Code → (next : ℕ) → List Order → Type 0
Wrote sc old here c next new = (orders : List Order) → Agrees (length old) (length new) new orders
    → Says sc orders here c next

abbrev pub WroteAll : Scene → List Order → (here : ℕ) → Codes → (next : ℕ) → List Order → Type 0
WroteAll sc old here cs next new = (orders : List Order)
    → Agrees (length old) (length new) new orders → SaysAll sc orders here cs next

abbrev pub WroteMaybe : Scene → List Order → (here : ℕ) → Option Setting → (next : ℕ) → List Order
    → Type 0
WroteMaybe sc old here a next new = (orders : List Order)
    → Agrees (length old) (length new) new orders → SaysMaybe sc orders here a next

abbrev pub WroteFirst : Scene → List Order → (here : ℕ) → List Setting → (next : ℕ) → List Order
    → Type 0
WroteFirst sc old here first next new = (orders : List Order)
    → Agrees (length old) (length new) new orders → SaysFirst sc orders here first next

-- a test that leads to these statements where it isn't 0, and elsewhere where it is
abbrev pub WroteTest : Scene → List Order → (here line : ℕ) → Term → Codes → (else_at next : ℕ)
    → List Order → Type 0
WroteTest sc old here line t then_do else_at next new =
    (orders : List Order) → Agrees (length old) (length new) new orders
    → (then_at : ℕ) × IsAt orders here (test line (placed sc.names t) then_at else_at)
    × SaysAll sc orders then_at then_do next

-- the statements of an `else`, where there is one
abbrev pub WroteElseOf : Scene → List Order → (here : ℕ) → Option (Vec Stmt Global) → (next : ℕ)
    → List Order → Type 0
WroteElseOf sc old here None next new = (here ≡ next) × (new ≡ old)
WroteElseOf sc old here (Some body) next new = WroteAll sc old here (codes_of body.items) next new

-- ---- what a call that makes orders gives: with memory, the place from which what it added says
-- this and goes on at `next`

abbrev pub Emits : Scene → (old : List Order) → Code → (next : ℕ) → Result ℕ NoMemory
    → (new : List Order) → Type 0
Emits sc old c next result new = IfOk result (λ here. Wrote sc old here c next new)

abbrev pub EmitsAll : Scene → (old : List Order) → Codes → (next : ℕ) → Result ℕ NoMemory
    → (new : List Order) → Type 0
EmitsAll sc old cs next result new = IfOk result (λ here. WroteAll sc old here cs next new)

abbrev pub EmitsMaybe : Scene → (old : List Order) → Option Setting → (next : ℕ) → Result ℕ NoMemory
    → (new : List Order) → Type 0
EmitsMaybe sc old a next result new = IfOk result (λ here. WroteMaybe sc old here a next new)

abbrev pub EmitsFirst : Scene → (old : List Order) → List Setting → (next : ℕ) → Result ℕ NoMemory
    → (new : List Order) → Type 0
EmitsFirst sc old first next result new = IfOk result
    (λ here. WroteFirst sc old here first next new)

abbrev pub EmitsElse : Scene → (old : List Order) → Option (Vec Stmt Global) → (next : ℕ)
    → Result ℕ NoMemory → (new : List Order) → Type 0
EmitsElse sc old body next result new = IfOk result (λ here. WroteElseOf sc old here body next new)

abbrev pub EmitsTest : Scene → (old : List Order) → (line : ℕ) → Term → Codes → (else_at next : ℕ)
    → Result ℕ NoMemory → (new : List Order) → Type 0
EmitsTest sc old line t then_do else_at next result new = IfOk result
    (λ here. WroteTest sc old here line t then_do else_at next new)
