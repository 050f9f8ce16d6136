use Rattle.std.proofs.Common.{◌∙◌, sym, subst, ap, arith}
use Rattle.gs_broker.specs.Choice.{IsChosen, chosen}
use Rattle.gs_broker.specs.Broker.{takes_in, usable_in}
use Rattle.gs_broker.proofs.Choosing.{scan_chosen}
use Rattle.gs_broker.proofs.Totals.{takes_within}
use Rattle.gs_broker.proofs.broker.Broker.pick.Goals as goal

pub returns : goal.returns
unfolding takes_in
returns g c =
    let self = c.args.self.now in
    let cost = g.C.CostLaw.cost c.args.p.now.law.value in
    let e = c.chosen.ensures ∙ ap chosen c.loop-w.invariant in
    subst (IsChosen cost (takes_in self) (usable_in self) c.args.ready.now) (sym e)
    (scan_chosen cost (takes_in self) (usable_in self) c.args.ready.now c.loop-w.w (λ u op is. let lt = takes_within self.workers.list.items u op is in let a = c.loop-w-test.false in let b = c.len-w-end.ensures in let same = self.workers.list.ok.0 in omega arith))
