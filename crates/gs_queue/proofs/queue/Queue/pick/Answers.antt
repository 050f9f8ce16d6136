use Rattle.gs_queue.specs.Queue.{listed_of, busy_of, slots_of, takes_of, lapses_of}
use Rattle.gs_queue.proofs.Picking.{are_listed, in_range, picked, may_start}
use Rattle.gs_queue.proofs.queue.Queue.pick.Goals as goal

pub pick-requires : goal.pick-requires
unfolding listed_of
pick-requires g c = in_range c.args.self.now c.fronts.result.now (are_listed c.args.self.now) c.fronts.ensures

pub returns-clause-least : goal.returns-clause-least
unfolding listed_of busy_of slots_of takes_of lapses_of
returns-clause-least g c = picked c.args.self.now (g.C.CostLaw.cost c.args.p.now.law.value) c.fronts.result.now c.pick.result (are_listed c.args.self.now) c.fronts.ensures c.pick.ensures

pub returns-clause-may : goal.returns-clause-may
unfolding listed_of busy_of slots_of takes_of lapses_of
returns-clause-may g c =
    let q = c.args.self.now in
    let cost = g.C.CostLaw.cost c.args.p.now.law.value in
    may_start q cost c.pick.result (are_listed q) (picked q cost c.fronts.result.now c.pick.result (are_listed q) c.fronts.ensures c.pick.ensures)

pub returns-clause-all : goal.returns-clause-all
returns-clause-all g c = are_listed c.args.self.now
