use Rattle.std.proofs.Common.{sym}
use Rattle.gs_graph.proofs.Due.{lists_followers, after_tied, none_followers}
use Rattle.gs_graph.proofs.graph.Graph.follower.Goals as goal

pub returns-in-Some-clause-list : goal.returns-in-Some-clause-list
returns-in-Some-clause-list c = lists_followers c.args.self.now c.args.n (after_tied c.args.self.now.counters)

pub returns-in-None-clause-list : goal.returns-in-None-clause-list
returns-in-None-clause-list c = lists_followers c.args.self.now c.args.n (after_tied c.args.self.now.counters)

pub returns-in-None-clause-item : goal.returns-in-None-clause-item
returns-in-None-clause-item c = sym (none_followers c.args.self.now c.args.n c.args.i (sym c.in-None.ensures.item))
