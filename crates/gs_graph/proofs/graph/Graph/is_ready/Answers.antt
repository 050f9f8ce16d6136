use Rattle.std.proofs.Common.{◌≡◌, ◌∙◌, ℕ, ap, sym, nat_lt, arith}
use Rattle.gs_graph.specs.Numbers.{has}
use Rattle.gs_graph.specs.Graph.{ready_in}
use Rattle.gs_graph.proofs.Due.{lists_ready, ready_by, no_task_ready}
use Rattle.gs_graph.proofs.graph.Graph.is_ready.Goals as goal

pub returns-then-n-gt0-clause-ready : goal.returns-then-n-gt0-clause-ready
returns-then-n-gt0-clause-ready c = ready_by c.args.self.now c.args.n c.is_due.result (omega arith) c.is_due.ensures.due

pub returns-then-n-gt0-clause-list : goal.returns-then-n-gt0-clause-list
returns-then-n-gt0-clause-list c = lists_ready c.args.self.now

pub returns-else-n-gt0-clause-ready : goal.returns-else-n-gt0-clause-ready
returns-else-n-gt0-clause-ready c =
    let none : c.args.n ≡ 0 = omega arith in
    ap (λ (n : ℕ). nat_lt 0 n) none ∙ sym (no_task_ready c.args.self.now) ∙ ap (λ (n : ℕ). has n (ready_in c.args.self.now)) (sym none)

pub returns-else-n-gt0-clause-list : goal.returns-else-n-gt0-clause-list
returns-else-n-gt0-clause-list c = lists_ready c.args.self.now
