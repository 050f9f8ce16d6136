-- A program that is made has no fault.
use Rattle.std.proofs.Common.{◌≡◌, ℕ, zero, suc, ◌%◌, Bool, true, false, if◌then◌else◌, eq-eqb, [], None, refl, ap, ◌∙◌}
use Rattle.std.specs.Prelude.{◌==◌}
use Rattle.gs_tree.specs.Program.{Codes, none, one}
use Rattle.gs_check.specs.Faults.{◌then◌, code_fault, codes_fault}
use Rattle.gs_report.specs.Generator.{behind, drawn, after_tasks}
use Rattle.gs_made.specs.Texts.{self_interface, line_of_task, mark_call, hash_call, task_call, task_calls}
use Rattle.gs_made.specs.Laws.{HasNoFault}

mark_fault : (line t x : ℕ) → code_fault self_interface.ops [] (mark_call line t x) ≡ None
mark_fault line t x = rw (eq-eqb line line refl) refl

hash_fault : (line x : ℕ) → code_fault self_interface.ops [] (hash_call line x) ≡ None
hash_fault line x = rw (eq-eqb line line refl) refl

call_fault : (t x : ℕ) → code_fault self_interface.ops [] (task_call t x) ≡ None
call_fault t x = by (drawn x % 4 == 0)
  where
    by : (b : Bool) → code_fault self_interface.ops [] (if b then mark_call (line_of_task t) t (behind x) else hash_call (line_of_task t) (behind x)) ≡ None
    by true = mark_fault (line_of_task t) t (behind x)
    by false = hash_fault (line_of_task t) (behind x)

calls_fault : (seed k : ℕ) (others : Codes) → codes_fault self_interface.ops [] (task_calls seed k others) ≡ codes_fault self_interface.ops [] others
calls_fault seed zero others = refl
calls_fault seed (suc k) others =
    calls_fault seed k (one (task_call (suc k) (after_tasks seed k)) others)
    ∙ ap (λ f. f then codes_fault self_interface.ops [] others) (call_fault (suc k) (after_tasks seed k))

pub has_no_fault : HasNoFault
has_no_fault seed n = calls_fault seed n none
