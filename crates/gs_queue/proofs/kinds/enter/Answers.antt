use Rattle.std.proofs.Common.{◌≡◌, ◌∙◌, ℕ, false, List, length, sym, ap, subst, arith, max}
use Rattle.gs_broker.specs.declared.choice.Ready.{Ready}
use Rattle.gs_queue.specs.Numbered.{put_in, without}
use Rattle.gs_queue.specs.Fronts.{task_at, last_at, with_task, are_alike, IsIn, AreFronts}
use Rattle.gs_queue.proofs.Rising.{rises_get}
use Rattle.gs_queue.proofs.Entering.{entered_first, entered_behind, entered_before, Enters, Sets, fits}
use Rattle.gs_queue.proofs.kinds.enter.Goals as goal

pub put-requires : goal.put-requires
put-requires c =
    let fs = c.args.fronts.now.items in
    let last = last_at c.args.last.now.items in
    let enters : Enters (length c.args.tasks.now) (task_at c.args.tasks.now) last fs c.args.r = record { are = c.requires.fronts; above = c.requires.numbered.0; below = c.requires.numbered.1; absent = c.requires.absent } in
    let none : (f : Ready) → IsIn f fs → are_alike f c.args.r ≡ false = subst (λ (rs : List Ready). (f : Ready) → IsIn f rs → are_alike f c.args.r ≡ false) c.deref.ensures.value c.in_default.ensures in
    let all = entered_first (length c.args.tasks.now) (task_at c.args.tasks.now) last (last_at c.set_last.new.last.items) fs c.args.r enters none c.set_last.ensures.last in
    let few = fits (length c.args.tasks.now) fs c.args.r all.rising in
    let room = c.requires.room in
    omega arith

pub returns-in_default-clause-fronts : goal.returns-in_default-clause-fronts
returns-in_default-clause-fronts c =
    let fs = c.args.fronts.now.items in
    let size = length c.args.tasks.now in
    let last = last_at c.args.last.now.items in
    let now = last_at c.set_last.new.last.items in
    let enters : Enters size (task_at c.args.tasks.now) last fs c.args.r = record { are = c.requires.fronts; above = c.requires.numbered.0; below = c.requires.numbered.1; absent = c.requires.absent } in
    let none : (f : Ready) → IsIn f fs → are_alike f c.args.r ≡ false = subst (λ (rs : List Ready). (f : Ready) → IsIn f rs → are_alike f c.args.r ≡ false) c.deref.ensures.value c.in_default.ensures in
    subst (AreFronts size (with_task c.args.r (task_at c.args.tasks.now)) now) (sym c.put.ensures.items)
    (entered_first size (task_at c.args.tasks.now) last now fs c.args.r enters none c.set_last.ensures.last)

pub last_at-requires : goal.last_at-requires
last_at-requires c =
    let at : IsIn c.in-Some.f c.args.fronts.now.items = subst (IsIn c.in-Some.f) c.deref.ensures.value c.in-Some.ensures.0 in
    let h = rises_get 1 (length c.args.tasks.now) c.args.fronts.now.items at.0 c.in-Some.f c.requires.fronts.rising at.1 in
    let low = h.0 in
    let high = h.1 in
    let same = c.requires.same in
    let len = ap length c.deref-2.ensures.value in
    (omega arith, omega arith)

pub set_last-requires-then-f-r : goal.set_last-requires-then-f-r
set_last-requires-then-f-r c =
    let at : IsIn c.in-Some.f c.args.fronts.now.items = subst (IsIn c.in-Some.f) c.deref.ensures.value c.in-Some.ensures.0 in
    let h = rises_get 1 (length c.args.tasks.now) c.args.fronts.now.items at.0 c.in-Some.f c.requires.fronts.rising at.1 in
    let low = h.0 in
    let high = h.1 in
    let same = c.requires.same in
    (omega arith, omega arith)

pub returns-then-f-r-clause-fronts : goal.returns-then-f-r-clause-fronts
returns-then-f-r-clause-fronts c =
    let fs = c.args.fronts.now.items in
    let size = length c.args.tasks.now in
    let f = c.in-Some.f in
    let last = last_at c.args.last.now.items in
    let now = last_at c.set_last-then-f-r.new.last.items in
    let enters : Enters size (task_at c.args.tasks.now) last fs c.args.r = record { are = c.requires.fronts; above = c.requires.numbered.0; below = c.requires.numbered.1; absent = c.requires.absent } in
    let at : IsIn f fs = subst (IsIn f) c.deref.ensures.value c.in-Some.ensures.0 in
    let end : c.max-end.result ≡ max (last f.n) c.args.r.n = c.max-end.ensures ∙ ap (λ (e : ℕ). max e c.args.r.n) (c.last_at.ensures ∙ ap (λ (xs : List ℕ). last_at xs f.n) c.deref-2.ensures.value) in
    entered_behind size (task_at c.args.tasks.now) last now fs c.args.r f enters at c.in-Some.ensures.1 c.if-f-r.true
    (subst (λ (e : ℕ). Sets f.n e last now) end c.set_last-then-f-r.ensures.last)

pub put-requires-2 : goal.put-requires-2
put-requires-2 c =
    let fs = c.args.fronts.now.items in
    let size = length c.args.tasks.now in
    let f = c.in-Some.f in
    let last = last_at c.args.last.now.items in
    let now = last_at c.set_last-2.new.last.items in
    let enters : Enters size (task_at c.args.tasks.now) last fs c.args.r = record { are = c.requires.fronts; above = c.requires.numbered.0; below = c.requires.numbered.1; absent = c.requires.absent } in
    let at : IsIn f fs = subst (IsIn f) c.deref.ensures.value c.in-Some.ensures.0 in
    let end : c.max-end.result ≡ max (last f.n) c.args.r.n = c.max-end.ensures ∙ ap (λ (e : ℕ). max e c.args.r.n) (c.last_at.ensures ∙ ap (λ (xs : List ℕ). last_at xs f.n) c.deref-2.ensures.value) in
    let all = entered_before size (task_at c.args.tasks.now) last now fs c.args.r f enters at c.in-Some.ensures.1 c.if-f-r.false (subst (λ (e : ℕ). Sets c.args.r.n e last now) end c.set_last-2.ensures.last) in
    let few = fits size (without f.n fs) c.args.r all.rising in
    let len = ap length c.take_out.ensures.items in
    let room = c.requires.room in
    let same = c.take_out.ensures.capacity in
    omega arith

pub returns-clause-fronts : goal.returns-clause-fronts
returns-clause-fronts c =
    let fs = c.args.fronts.now.items in
    let size = length c.args.tasks.now in
    let f = c.in-Some.f in
    let last = last_at c.args.last.now.items in
    let now = last_at c.set_last-2.new.last.items in
    let enters : Enters size (task_at c.args.tasks.now) last fs c.args.r = record { are = c.requires.fronts; above = c.requires.numbered.0; below = c.requires.numbered.1; absent = c.requires.absent } in
    let at : IsIn f fs = subst (IsIn f) c.deref.ensures.value c.in-Some.ensures.0 in
    let end : c.max-end.result ≡ max (last f.n) c.args.r.n = c.max-end.ensures ∙ ap (λ (e : ℕ). max e c.args.r.n) (c.last_at.ensures ∙ ap (λ (xs : List ℕ). last_at xs f.n) c.deref-2.ensures.value) in
    subst (AreFronts size (with_task c.args.r (task_at c.args.tasks.now)) now) (sym (c.put-2.ensures.items ∙ ap (put_in c.args.r) c.take_out.ensures.items))
    (entered_before size (task_at c.args.tasks.now) last now fs c.args.r f enters at c.in-Some.ensures.1 c.if-f-r.false (subst (λ (e : ℕ). Sets c.args.r.n e last now) end c.set_last-2.ensures.last))
