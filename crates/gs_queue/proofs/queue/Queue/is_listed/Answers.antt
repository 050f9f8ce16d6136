use Rattle.gs_queue.proofs.Picking.{are_listed}
use Rattle.gs_queue.proofs.queue.Queue.is_listed.Goals as goal

pub returns-clause-all : goal.returns-clause-all
returns-clause-all c = are_listed c.args.self.now
