use Rattle.std.proofs.Common.{◌≡◌, ◌<◌, ◌≤◌, sym, ◌∙◌, subst, true, arith, inl, inr}
use Rattle.std.proofs.lemmas.Bool.{cases_lt}
use Rattle.gs_queue.specs.Queue.{tasks_of}
use Rattle.gs_tables.specs.Starts.{IsOpenSaid}
use Rattle.gs_core.proofs.Settled.{is_nothing}
use Rattle.gs_core.proofs.Freed.{one_freed}
use Rattle.gs_core.proofs.starting.list_open.Goals as goal

pub returns-clause-more : goal.returns-clause-more
returns-clause-more c =
    let m = c.args.m in
    let ready : c.is_ready.result ≡ true = search in
    let job = c.job.result in
    let count = c.count.ensures in
    let pos : 0 < m = elim (cases_lt 0 m) [ inl is ↦ is | inr not ↦ absurd (c.if-m-eq0.false (omega arith)) ] in
    let le : m ≤ tasks_of c.args.queue.now = let within = c.if-m-count.false in omega arith in
    one_freed c.args.tables.now c.args.queue.now c.list.new.self m c.listed.result c.listed.ensures.number (pos, le) (sym c.job.ensures.job ∙ is_nothing job (sym c.is_some.ensures ∙ c.if-is_some.false)) c.list.ensures.tasks c.list.ensures.run c.list.ensures.listed
    (λ s k h task holds small at.
    let opened = subst (IsOpenSaid s h m task) ready (c.is_ready.ensures.says s k h task holds at) in
    (opened, c.listed.ensures.says s k h task holds small at opened.inputs))
