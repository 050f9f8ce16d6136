use Rattle.std.proofs.Common.{Option, map, ap, sym, ◌∙◌}
use Rattle.gs_talk.specs.Talk.{went}
use Rattle.gs_orders.specs.Steps.{handed_of}
use Rattle.gs_main.specs.CallAt.{CallAt}
use Rattle.gs_main.specs.Talking.{Goes}
use Rattle.gs_main.specs.Seen.{given_of, state_of, called}
use Rattle.gs_main.proofs.Replying.{went_next}
use Rattle.gs_main.proofs.run.Run.end_called.Goals as goal

pub returns-in-Some : goal.returns-in-Some
returns-in-Some c =
    let t = given_of c.args.script.now in
    let orders = c.args.script.now.orders.items in
    let old = c.args.self.now in
    let x = c.in-Some in
    went_next t orders x.next c.end_call.new.self (went c.args.a.now x.line (map handed_of x.args.now) old.steps (state_of old.work)) c.end_call.ensures
    ∙ ap (λ (o : Option CallAt). Goes (called t orders o old.steps (state_of old.work) c.args.a.now)) (sym x.ensures.0)

pub returns-in-None : goal.returns-in-None
returns-in-None c =
    let old = c.args.self.now in
    ap (λ (o : Option CallAt). Goes (called (given_of c.args.script.now) c.args.script.now.orders.items o old.steps (state_of old.work) c.args.a.now)) (sym c.in-None.ensures)
