use Rattle.std.proofs.Common.{Option, sym, subst}
use Rattle.std.specs.Option.{option_map}
use Rattle.gs_orders.specs.declared.order.Order.{Order}
use Rattle.gs_orders.specs.Steps.{step_of}
use Rattle.gs_main.specs.CallAt.{call_in, IsCallAt}
use Rattle.gs_main.proofs.Replying.{short_at}
use Rattle.gs_main.proofs.script.Script.call_at.Goals as goal

pub call_of-requires : goal.call_of-requires
call_of-requires c = short_at c.args.self.now.orders.items c.args.at c.in-Some.o.now c.args.self.now.short (sym c.in-Some.ensures)

pub returns-in-Some : goal.returns-in-Some
returns-in-Some c = subst (λ (x : Option Order). IsCallAt (call_in (option_map step_of x)) c.call_of.result) c.in-Some.ensures c.call_of.ensures
