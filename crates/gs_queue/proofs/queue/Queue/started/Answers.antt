use Rattle.std.proofs.Common.{◌∙◌, sym, ap, refl, arith, Some, Bool, is_some, if◌then◌else◌, inl, inr}
use Rattle.std.proofs.lemmas.Bool.Decides.{eqb_tells}
use Rattle.gs_broker.specs.Broker.{job_in, is_known, spare_in}
use Rattle.gs_queue.specs.Numbered.{unknown}
use Rattle.gs_queue.specs.Views.{size_in, task_in}
use Rattle.gs_queue.specs.Queue.{tasks_of}
use Rattle.gs_queue.proofs.Leading.{elsewhere, without_cases}
use Rattle.gs_queue.proofs.Knowing.{started_spare, room}
use Rattle.gs_queue.proofs.queue.Queue.started.Goals as goal

pub invariant_of-self : goal.invariant_of-self
unfolding tasks_of
invariant_of-self c =
    let old = c.args.self.now in
    let start = c.started.ensures in
    let numbered = c.requires.numbered in
    let size = c.take.ensures.size in
    record {
      idle = λ n r e. let was = without_cases c.args.n (task_in old.listed) n r (sym (c.take.ensures.tasks n) ∙ e) in ap is_some (start.jobs n ∙ elsewhere c.args.n n (Some c.args.w) (job_in old.broker n) was.0) ∙ old.idle n r was.1;
      known = λ m e. elim (eqb_tells c.args.n m) [
        | inl is ↦ let low = numbered.0 in let high = numbered.1 in let same = is.1 in (omega arith, omega arith)
        | inr ne ↦ let h = old.known m (sym (ap is_some (start.jobs m ∙ ap (λ (t : Bool). if t then Some c.args.w else job_in old.broker m) ne.0)) ∙ e) in let high = h.1 in (h.0, omega arith)
      ];
      spare = let h = started_spare (is_known old.broker) (is_known c.started.new.self) (size_in old.listed) c.args.n (spare_in old.broker) (spare_in c.started.new.self) (is_known old.broker c.args.n) refl start.known numbered.0 numbered.1 old.spare start.spare start.again in let same = ap (unknown (is_known c.started.new.self)) size in omega arith;
      range = λ n r e. let was = without_cases c.args.n (task_in old.listed) n r (sym (c.take.ensures.tasks n) ∙ e) in old.range n r was.1;
    }

pub started-requires-clause-room : goal.started-requires-clause-room
unfolding tasks_of
started-requires-clause-room c =
    let old = c.args.self.now in
    let numbered = c.requires.numbered in
    room (is_known old.broker) (size_in old.listed) c.args.n (spare_in old.broker) (is_known old.broker c.args.n) refl numbered.0 numbered.1 old.spare
