use Rattle.gs_queue.specs.Queue.{listed_of, takes_of, lapses_of}
use Rattle.gs_queue.proofs.Picking.{are_listed, stranded}
use Rattle.gs_queue.proofs.queue.Queue.no_worker.Goals as goal

pub returns-clause-stranded : goal.returns-clause-stranded
unfolding listed_of takes_of lapses_of
returns-clause-stranded c = stranded c.args.self.now c.fronts.result.now c.no_worker.result c.fronts.ensures c.no_worker.ensures

pub returns-clause-all : goal.returns-clause-all
returns-clause-all c = are_listed c.args.self.now
