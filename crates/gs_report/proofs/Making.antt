-- Lines of tasks that are written one after the other.
use Rattle.std.proofs.Common.{◌≡◌, ℕ, suc, ◌+◌, List, ◌++◌, refl, sym, ap, subst, ◌∙◌, arith, append_assoc}
use Rattle.gs_report.specs.Generator.{task_line, after_task, after_tasks, task_lines}

next_is : (k : ℕ) → suc k ≡ k + 1
next_is k = omega arith

lines_more : (seed k : ℕ)
    → task_lines seed (k + 1) ≡ task_lines seed k ++ task_line (k + 1) (after_tasks seed k)
lines_more seed k =
    subst (λ (j : ℕ). task_lines seed j ≡ task_lines seed k ++ task_line j (after_tasks seed k))
    (next_is k) refl

pub state_more : (seed k x new : ℕ) → x ≡ after_tasks seed k → new ≡ after_task x
    → new ≡ after_tasks seed (k + 1)
state_more seed k x new at step =
    step ∙ ap after_task at ∙ ap (after_tasks seed) (next_is k)

pub text_more : (seed k x : ℕ) (old text new : List ℕ) → x ≡ after_tasks seed k
    → text ≡ old ++ task_lines seed k → new ≡ text ++ task_line (k + 1) x
    → new ≡ old ++ task_lines seed (k + 1)
text_more seed k x old text new at so step =
    step ∙ ap (λ (y : ℕ). text ++ task_line (k + 1) y) at
    ∙ ap (λ (l : List ℕ). l ++ task_line (k + 1) (after_tasks seed k)) so
    ∙ append_assoc old (task_lines seed k) (task_line (k + 1) (after_tasks seed k))
    ∙ ap (λ (l : List ℕ). old ++ l) (sym (lines_more seed k))
