use Rattle.std.proofs.Common.{◌≡◌, ◌∙◌, ℕ, suc, true, false, List, length, sym, ap, subst, arith, Some}
use Rattle.gs_queue.specs.Numbered.{put_in, without}
use Rattle.gs_queue.specs.Fronts.{task_at, last_at, without_task, stands_in, AreFronts, NoneBetween, IsNextAlike}
use Rattle.gs_queue.proofs.Leading.{task_within}
use Rattle.gs_queue.proofs.Entering.{Sets, fits}
use Rattle.gs_queue.proofs.Leaving.{left_behind, left_last, left_next}
use Rattle.gs_queue.proofs.kinds.leave.Goals as goal

pub returns-then-not-stands_in-clause-fronts : goal.returns-then-not-stands_in-clause-fronts
returns-then-not-stands_in-clause-fronts c =
    let none : stands_in c.args.r.n c.args.fronts.now.items ≡ false = ap (stands_in c.args.r.n) (sym c.deref.ensures.value) ∙ sym c.if-not-stands_in.ensures in
    left_behind (length c.args.tasks.now) (task_at c.args.tasks.now) (last_at c.args.last.now.items) c.args.fronts.now.items c.args.r c.requires.fronts none

pub last_at-end-requires : goal.last_at-end-requires
last_at-end-requires c =
    let h = task_within c.args.tasks.now c.args.r.n c.args.r c.requires.listed in
    let high = h.1 in
    let same = c.requires.same in
    let len = ap length c.deref-2.ensures.value in
    (h.0, omega arith)

pub returns-in_default-clause-fronts : goal.returns-in_default-clause-fronts
returns-in_default-clause-fronts c =
    let size = length c.args.tasks.now in
    let task = task_at c.args.tasks.now in
    let last = last_at c.args.last.now.items in
    let r = c.args.r in
    let end : c.last_at-end.result ≡ last r.n = c.last_at-end.ensures ∙ ap (λ (xs : List ℕ). last_at xs r.n) c.deref-2.ensures.value in
    let none : NoneBetween task r (suc (last r.n)) = subst (λ (e : ℕ). NoneBetween task r (suc e)) end c.in_default.ensures in
    subst (AreFronts size (without_task r.n task) last) (sym c.take_out.ensures.items)
    (left_last size task last c.args.fronts.now.items r c.requires.fronts c.requires.listed none)

pub set_last-requires : goal.set_last-requires
set_last-requires c =
    let g = c.in-Some.next in
    let h = task_within c.args.tasks.now g.n g c.in-Some.ensures.0 in
    let high = h.1 in
    let same = c.requires.same in
    (h.0, omega arith)

pub put-requires : goal.put-requires
put-requires c =
    let size = length c.args.tasks.now in
    let task = task_at c.args.tasks.now in
    let last = last_at c.args.last.now.items in
    let now = last_at c.set_last.new.last.items in
    let fs = c.args.fronts.now.items in
    let r = c.args.r in
    let g = c.in-Some.next in
    let end : c.last_at-end.result ≡ last r.n = c.last_at-end.ensures ∙ ap (λ (xs : List ℕ). last_at xs r.n) c.deref-2.ensures.value in
    let next : IsNextAlike task r (last r.n) (Some g) = subst (λ (e : ℕ). IsNextAlike task r e (Some g)) end c.in-Some.ensures in
    let stood : stands_in r.n fs ≡ true = ap (stands_in r.n) (sym c.deref.ensures.value) ∙ sym c.if-not-stands_in.ensures in
    let all = left_next size task last now fs r g c.requires.fronts c.requires.listed stood (task_within c.args.tasks.now g.n g next.0).1 next (subst (λ (e : ℕ). Sets g.n e last now) end c.set_last.ensures.last) in
    let few = fits size (without r.n fs) g all.rising in
    let len = ap length c.take_out.ensures.items in
    let room = c.requires.room in
    let same = c.take_out.ensures.capacity in
    omega arith

pub returns-clause-fronts : goal.returns-clause-fronts
returns-clause-fronts c =
    let size = length c.args.tasks.now in
    let task = task_at c.args.tasks.now in
    let last = last_at c.args.last.now.items in
    let now = last_at c.set_last.new.last.items in
    let fs = c.args.fronts.now.items in
    let r = c.args.r in
    let g = c.in-Some.next in
    let end : c.last_at-end.result ≡ last r.n = c.last_at-end.ensures ∙ ap (λ (xs : List ℕ). last_at xs r.n) c.deref-2.ensures.value in
    let next : IsNextAlike task r (last r.n) (Some g) = subst (λ (e : ℕ). IsNextAlike task r e (Some g)) end c.in-Some.ensures in
    let stood : stands_in r.n fs ≡ true = ap (stands_in r.n) (sym c.deref.ensures.value) ∙ sym c.if-not-stands_in.ensures in
    subst (AreFronts size (without_task r.n task) now) (sym (c.put.ensures.items ∙ ap (put_in g) c.take_out.ensures.items))
    (left_next size task last now fs r g c.requires.fronts c.requires.listed stood (task_within c.args.tasks.now g.n g next.0).1 next (subst (λ (e : ℕ). Sets g.n e last now) end c.set_last.ensures.last))
