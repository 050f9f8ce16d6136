use Rattle.std.proofs.Common.{sym}
use Rattle.gs_graph.specs.Counted.{due_in}
use Rattle.gs_graph.specs.Graph.{ready_in}
use Rattle.gs_graph.proofs.Numbering.{none_suc}
use Rattle.gs_graph.proofs.Due.{lists_ready}
use Rattle.gs_graph.proofs.graph.Graph.ready_at.Goals as goal

pub returns-in-Some-clause-list : goal.returns-in-Some-clause-list
returns-in-Some-clause-list c = lists_ready c.args.self.now

pub returns-in-None-clause-list : goal.returns-in-None-clause-list
returns-in-None-clause-list c = lists_ready c.args.self.now

pub returns-in-None-clause-item : goal.returns-in-None-clause-item
unfolding ready_in
returns-in-None-clause-item c = sym (none_suc (due_in c.args.self.now.counters) c.args.i (sym c.in-None.ensures.item))
