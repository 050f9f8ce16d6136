-- Calls whose places a byte tells.
use Rattle.std.specs.Prelude.{Bool, true, length, nat_lt}
use Rattle.gs_orders.specs.declared.order.Order.{Order}
use Rattle.gs_orders.specs.declared.order.Order.TheVariants as order

-- an order calls with fewer than 255 arguments
abbrev pub is_short : Order → Bool
is_short (order.Skip line next) = true
is_short (order.Set line to value next) = true
is_short (order.Test line value then_at else_at) = true
is_short (order.Open line to path mode next) = true
is_short (order.Read line got handle to next) = true
is_short (order.Close line handle next) = true
is_short (order.Wait line next) = true
is_short (order.Print line format args next) = true
is_short (order.PrintFile line handle format args next) = true
is_short (order.PrintStr line to format args next) = true
is_short (order.Call line op args next) = nat_lt (length args.items) 255
is_short (order.Leave line) = true
