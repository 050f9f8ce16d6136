use Rattle.gs_graph.proofs.Due.{lists_due}
use Rattle.gs_graph.proofs.counters.Counters.is_due.Goals as goal

pub returns-then-m-len-clause-list : goal.returns-then-m-len-clause-list
returns-then-m-len-clause-list c = lists_due c.args.self.now

pub returns-else-m-len-clause-list : goal.returns-else-m-len-clause-list
returns-else-m-len-clause-list c = lists_due c.args.self.now
