use Rattle.std.proofs.Common.{◌≡◌, ◌+◌, ◌++◌, ◌∷◌, [], ◌∙◌, ℕ, List, length, Option, None, sym, ap, subst, arith}
use Rattle.std.proofs.lemmas.List.{length-append}
use Rattle.gs_broker.specs.declared.choice.Ready.{Ready}
use Rattle.gs_queue.specs.Fronts.{task_at, last_at, AreFronts}
use Rattle.gs_queue.specs.Views.{size_in, task_in}
use Rattle.gs_queue.proofs.Growing.{task_push, last_push, same_fronts}
use Rattle.gs_queue.proofs.listed.Listed.grow.Goals as goal

pub invariant_of-self-2 : goal.invariant_of-self-2
unfolding size_in
invariant_of-self-2 c =
    let old = c.args.self.now in
    let tasks : c.push_last.new.xs.items ≡ old.tasks.items ++ None ∷ [] = c.push_last.ensures ∙ ap (λ (ts : List (Option Ready)). ts ++ None ∷ []) c.reserve.ensures.items in
    let last : c.push_last-2.new.xs.items ≡ old.last.items ++ 0 ∷ [] = c.push_last-2.ensures ∙ ap (λ (xs : List ℕ). xs ++ 0 ∷ []) c.reserve-2.ensures.items in
    let more : length c.push_last.new.xs.items ≡ length old.tasks.items + 1 = ap length tasks ∙ length-append old.tasks.items (None ∷ []) in
    let too : length c.push_last-2.new.xs.items ≡ length old.last.items + 1 = ap length last ∙ length-append old.last.items (0 ∷ []) in
    let at : (n : ℕ) → task_at c.push_last.new.xs.items n ≡ task_at old.tasks.items n = λ n. ap (λ (ts : List (Option Ready)). task_at ts n) tasks ∙ task_push old.tasks.items n in
    let ends : (n : ℕ) → last_at c.push_last-2.new.xs.items n ≡ last_at old.last.items n = λ n. ap (λ (xs : List ℕ). last_at xs n) last ∙ last_push old.last.items n in
    record {
      same = let s = old.same in omega arith;
      few = let f = c.requires in omega arith;
      room = let h = c.in_ok-reserve-3.ensures.ok in let len = c.len.ensures in let old_len = old.tasks.ok.0 in let kept = c.reserve.ensures.len in omega arith;
      numbers = λ n r e. old.numbers n r (sym (at n) ∙ e);
      first = subst (AreFronts (length c.push_last.new.xs.items) (task_at c.push_last.new.xs.items) (last_at c.push_last-2.new.xs.items)) (sym c.reserve-3.ensures.items)
          (same_fronts (length old.tasks.items) (length c.push_last.new.xs.items) (task_at old.tasks.items) (task_at c.push_last.new.xs.items) (last_at old.last.items) (last_at c.push_last-2.new.xs.items) old.fronts.items (omega arith) at ends old.first);
    }

pub returns-clause-tasks : goal.returns-clause-tasks
unfolding task_in
returns-clause-tasks c = λ n. ap (λ (ts : List (Option Ready)). task_at ts n) (c.push_last.ensures ∙ ap (λ (ts : List (Option Ready)). ts ++ None ∷ []) c.reserve.ensures.items) ∙ task_push c.args.self.now.tasks.items n
