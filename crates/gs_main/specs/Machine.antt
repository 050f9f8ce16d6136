-- What a list of orders means.
use Rattle.std.specs.Prelude.{ℕ, zero, suc, List, Option, Some, None}
use Rattle.gs_talk.specs.declared.question.Question.TheVariants.{FuelOut}
use Rattle.gs_talk.specs.Values.{is_zero, int_of}
use Rattle.gs_talk.specs.Talk.{Given, State, Dialogue, Stop, Meaning, then_do, valued, branch}
use Rattle.gs_orders.specs.declared.order.Order.{Order}
use Rattle.gs_orders.specs.Steps.{Step, skip, put, test, load, fetch, save, wait, show, show_in, show_to, send, leave, step_at}
use Rattle.gs_main.specs.Meanings.{assigning, showing, showing_to, showing_in, loading, fetching, saving, pausing, sending, leaving_all}

-- what comes after an order, by the place that it names
abbrev pub Onward : Type 0
Onward = (next : ℕ) → State → Dialogue

-- an order, with n steps left after its own
abbrev pub obeyed : Given → Option Step → ℕ → State → Onward → Dialogue
obeyed t None n s go = Stop FuelOut s
obeyed t (Some (skip line next)) n s go = go next s
obeyed t (Some (put line to value next)) n s go =
    then_do (assigning line to value n s) (λ m u. go next u)
obeyed t (Some (test line value then_at else_at)) n s go =
    valued line value s (λ v u.
    branch (is_zero (int_of v)) (λ m w. go then_at w) (λ m w. go else_at w) n u)
obeyed t (Some (load line to path mode next)) n s go =
    then_do (loading t line to path mode n s) (λ m u. go next u)
obeyed t (Some (fetch line got handle to next)) n s go =
    then_do (fetching line got handle to n s) (λ m u. go next u)
obeyed t (Some (save line handle next)) n s go = then_do (saving line handle n s) (λ m u. go next u)
obeyed t (Some (wait line next)) n s go = then_do (pausing line n s) (λ m u. go next u)
obeyed t (Some (show line format args next)) n s go =
    then_do (showing line format args n s) (λ m u. go next u)
obeyed t (Some (show_in line handle format args next)) n s go =
    then_do (showing_in line handle format args n s) (λ m u. go next u)
obeyed t (Some (show_to line to format args next)) n s go =
    then_do (showing_to line to format args n s) (λ m u. go next u)
obeyed t (Some (send line op args next)) n s go =
    then_do (sending t line op args n s) (λ m u. go next u)
obeyed t (Some (leave line)) n s go = leaving_all line s

-- the orders from a place on; each takes a step
unfoldable pub goes : Given → List Order → (at : ℕ) → Meaning
goes t orders at zero s = Stop FuelOut s
goes t orders at (suc n) s = obeyed t (step_at orders at) n s (λ next u. goes t orders next n u)
