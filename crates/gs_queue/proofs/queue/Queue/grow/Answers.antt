use Rattle.std.proofs.Common.{◌≤◌, ◌+◌, ◌∙◌, ◌⊎◌, inl, inr, Result, Ok, Err, OnOk, OnErr, sym, ap, arith, is_some}
use Rattle.gs_broker.specs.Broker.{is_known}
use Rattle.gs_queue.specs.Views.{size_in}
use Rattle.gs_queue.proofs.Knowing.{unknown_most}
use Rattle.gs_queue.specs.Queue.{tasks_of, listed_of}
use Rattle.gs_queue.proofs.Picking.{next_unlisted}
use Rattle.gs_queue.proofs.queue.Queue.grow.Goals as goal

either : {T E : Type 0} (r : Result T E) (P Q : Type 0) → OnOk r P → OnErr r Q → P ⊎ Q
either (Ok x) P Q p q = inl p
either (Err e) P Q p q = inr q

pub invariant_of-self-2 : goal.invariant_of-self-2
invariant_of-self-2 c =
    let old = c.args.self.now in
    let jobs = c.reserve.ensures.jobs in
    let at = c.grow.ensures.tasks in
    let now = size_in c.grow.new.self in
    let no_less : size_in old.listed ≤ now = elim (either c.grow.result _ _ c.grow.ensures.ok c.grow.ensures.err) [ inl more ↦ omega arith | inr same ↦ omega arith ] in
    let no_more : now ≤ size_in old.listed + 1 = elim (either c.grow.result _ _ c.grow.ensures.ok c.grow.ensures.err) [ inl more ↦ omega arith | inr same ↦ omega arith ] in
    record {
      idle = λ n r e. ap is_some (jobs.jobs n) ∙ old.idle n r (sym (at n) ∙ e);
      known = λ n e. let h = old.known n (ap is_some (sym (jobs.jobs n)) ∙ e) in let le = h.1 in (h.0, omega arith);
      spare = let room = c.in_ok-reserve.ensures.room in let m = unknown_most (is_known c.reserve.new.self) now in let count = c.count.ensures in omega arith;
      range = λ n r e. old.range n r (sym (at n) ∙ e);
    }

pub returns-in_err-reserve-clause-unlisted : goal.returns-in_err-reserve-clause-unlisted
unfolding tasks_of listed_of
returns-in_err-reserve-clause-unlisted c = next_unlisted c.args.self.now.listed

pub returns-in_err-grow-clause-unlisted : goal.returns-in_err-grow-clause-unlisted
unfolding tasks_of listed_of
returns-in_err-grow-clause-unlisted c = c.grow.ensures.tasks (size_in c.args.self.now.listed + 1) ∙ next_unlisted c.args.self.now.listed

pub returns-clause-unlisted : goal.returns-clause-unlisted
unfolding tasks_of listed_of
returns-clause-unlisted c = c.grow.ensures.tasks (size_in c.args.self.now.listed + 1) ∙ next_unlisted c.args.self.now.listed
