use Rattle.std.proofs.Common.{◌≡◌, ℕ, suc, sym, ap, ◌∙◌, subst, arith, true}
use Rattle.gs_history.specs.Setup.{world_at}
use Rattle.gs_talk.specs.Seq.{task_at}
use Rattle.gs_tables.specs.Starts.{IsOpenSaid}
use Rattle.gs_core.proofs.Asking.{no_more, none_bears, ready_bears, waiting_bears}
use Rattle.gs_core.proofs.listing.list_called.Goals as goal

pub returns-then-count-clause-bears : goal.returns-then-count-clause-bears
returns-then-count-clause-bears c = λ s k h holds small works lists tasks flown.
    let all = c.count.ensures.says s (suc k) h holds in
    let le = c.if-count.true in
    let has = c.count-count.ensures in
    none_bears c.args.tables.now c.args.queue.now s k h holds works lists tasks flown (no_more s k (omega arith))

pub returns-then-is_ready-clause-bears : goal.returns-then-is_ready-clause-bears
returns-then-is_ready-clause-bears c = λ s k h holds small works lists tasks flown.
    let all = c.count.ensures.says s (suc k) h holds in
    let more = c.if-count.false in
    let has = c.count-count.ensures in
    let next = c.in-Some.ensures in
    let g = c.in_ok-grow.ensures in
    let number = c.listed.ensures.number in
    let n : c.in-Some.n ≡ c.listed.result.n = sym number in
    ready_bears c.args.tables.now c.args.queue.now c.grow.new.self c.list.new.self c.listed.result s k h holds small works lists tasks flown (omega arith) (record { tasks = g.ok; listed = g.listed; run = g.run; idle = g.idle }) (omega arith)
    c.list.ensures.run c.list.ensures.listed c.list.ensures.tasks
    (λ task at. subst (λ (i : ℕ). IsOpenSaid s h i task true) n (subst (IsOpenSaid s h c.in-Some.n task) c.if-is_ready.true (c.is_ready.ensures.says s (suc k) h task holds (ap (task_at (world_at s (suc k)).tasks) n ∙ at))))
    (λ task at inputs. subst (λ (i : ℕ). Rattle.gs_tables.specs.Starts.IsEntry c.listed.result i task) n (c.listed.ensures.says s (suc k) h task holds small (ap (task_at (world_at s (suc k)).tasks) n ∙ at) (subst (λ (i : ℕ). (m : ℕ) → Rattle.gs_talk.specs.Actions.DependsOn s.run i m → Rattle.gs_history.specs.Frontier.IsDone h m) number inputs)))

pub returns-else-is_ready-clause-bears : goal.returns-else-is_ready-clause-bears
returns-else-is_ready-clause-bears c = λ s k h holds small works lists tasks flown.
    let all = c.count.ensures.says s (suc k) h holds in
    let more = c.if-count.false in
    let has = c.count-count.ensures in
    let next = c.in-Some.ensures in
    let g = c.in_ok-grow.ensures in
    waiting_bears c.args.tables.now c.args.queue.now c.grow.new.self c.in-Some.n s k h holds works lists tasks flown (omega arith) (record { tasks = g.ok; listed = g.listed; run = g.run; idle = g.idle }) (omega arith)
    (λ task at. subst (IsOpenSaid s h c.in-Some.n task) c.if-is_ready.false (c.is_ready.ensures.says s (suc k) h task holds at))
