use Rattle.std.proofs.Common.{sym, arith}
use Rattle.gs_main.specs.declared.waits.Last.TheVariants as l
use Rattle.gs_main.specs.Seen.{given_of}
use Rattle.gs_main.proofs.Moving.{stop_moves, no_order, no_steps}
use Rattle.gs_main.proofs.run.Run.step.Goals as goal

pub returns-in-None : goal.returns-in-None
returns-in-None c =
    let t = given_of c.args.script.now in
    let orders = c.args.script.now.orders.items in
    let old = c.args.self.now in
    stop_moves t orders old c.stop-in-None.result (record { at = old.at; steps = old.steps; work = c.stop-in-None.new.self }) l.FuelOut (no_order t orders old (omega arith) (sym c.in-None.ensures)) c.stop-in-None.ensures.asks c.stop-in-None.ensures.kept

pub returns-then-self-eq0 : goal.returns-then-self-eq0
returns-then-self-eq0 c =
    let t = given_of c.args.script.now in
    let orders = c.args.script.now.orders.items in
    let old = c.args.self.now in
    stop_moves t orders old c.stop.result (record { at = old.at; steps = old.steps; work = c.stop.new.self }) l.FuelOut (no_steps t orders old (omega arith)) c.stop.ensures.asks c.stop.ensures.kept
