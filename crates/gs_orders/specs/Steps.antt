-- Orders as plain data.
use Rattle.std.specs.Prelude.{ℕ, List, map, slice_get, Option}
use Rattle.std.specs.Option.{option_map}
use Rattle.gs_tree.specs.declared.tree.Mode.{Mode}
use Rattle.gs_talk.specs.Terms.{Placed}
use Rattle.gs_talk.specs.View.{placed_of, all_placed_of}
use Rattle.gs_talk.specs.Talk as talk
use Rattle.gs_orders.specs.declared.hand.Handed.{Handed}
use Rattle.gs_orders.specs.declared.hand.Handed.TheVariants as hand
use Rattle.gs_orders.specs.declared.order.Order.{Order}
use Rattle.gs_orders.specs.declared.order.Order.TheVariants as order

pub data Step : Type 0 where
  skip : (line next : ℕ) → Step
  put : (line to : ℕ) (value : Placed) (next : ℕ) → Step
  test : (line : ℕ) (value : Placed) (then_at else_at : ℕ) → Step
  load : (line to : ℕ) (path : Placed) (mode : Mode) (next : ℕ) → Step
  fetch : (line got handle to next : ℕ) → Step
  save : (line handle next : ℕ) → Step
  wait : (line next : ℕ) → Step
  show : (line : ℕ) (format : List ℕ) (args : List Placed) (next : ℕ) → Step
  show_in : (line handle : ℕ) (format : List ℕ) (args : List Placed) (next : ℕ) → Step
  show_to : (line to : ℕ) (format : List ℕ) (args : List Placed) (next : ℕ) → Step
  send : (line op : ℕ) (args : List talk.Handed) (next : ℕ) → Step
  leave : (line : ℕ) → Step

abbrev pub handed_of : Handed → talk.Handed
handed_of (hand.ByValue value) = talk.by_value (placed_of value)
handed_of (hand.Into i) = talk.into i

abbrev pub step_of : Order → Step
step_of (order.Skip line next) = skip line next
step_of (order.Set line to value next) = put line to (placed_of value) next
step_of (order.Test line value then_at else_at) = test line (placed_of value) then_at else_at
step_of (order.Open line to path mode next) = load line to (placed_of path) mode next
step_of (order.Read line got handle to next) = fetch line got handle to next
step_of (order.Close line handle next) = save line handle next
step_of (order.Wait line next) = wait line next
step_of (order.Print line format args next) = show line format (all_placed_of args.items) next
step_of (order.PrintFile line handle format args next) = show_in line handle format
    (all_placed_of args.items) next
step_of (order.PrintStr line to format args next) = show_to line to format
    (all_placed_of args.items) next
step_of (order.Call line op args next) = send line op (map handed_of args.items) next
step_of (order.Leave line) = leave line

abbrev pub step_at : List Order → ℕ → Option Step
step_at orders i = option_map step_of (slice_get orders i)
