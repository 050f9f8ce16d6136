-- Each task of a program that passed the checks is given something at each of its places.
use Rattle.std.proofs.Common.{◌≡◌, ℕ, zero, suc, sym, ap, subst, ◌∙◌, List, length, Option, Some, None, inl, inr}
use Rattle.std.specs.Prelude.{slice_get}
use Rattle.gs_check.specs.Faults.{fault_of}
use Rattle.gs_check.specs.Passes.{ProgramPasses}
use Rattle.gs_check.specs.Passing.{program_in, interface_in}
use Rattle.gs_check.specs.declared.checked.Checked.{Checked}
use Rattle.gs_check.proofs.PassLaws.{nothing_there, program_passes}
use Rattle.gs_main.specs.Shown.{talking}
use Rattle.gs_main.specs.declared.dialogue.Main.{Main}
use Rattle.gs_talk.specs.declared.question.Question.{Question}
use Rattle.gs_talk.specs.declared.question.Question.TheVariants.{Call}
use Rattle.gs_talk.specs.declared.question.Answer.{Answer}
use Rattle.gs_talk.specs.Talk.{Given, Dialogue, Done, Ask, Stop, dialogue}
use Rattle.gs_talk.specs.Actions.{Act, acts_by}
use Rattle.gs_talk.specs.Seq.{Run, World, Standing, Task, seq, step, step_by, answered, reply, task_at, task_of, IsTask}
use Rattle.gs_talk_laws.proofs.Lists.{get_either}
use Rattle.gs_talk_laws.proofs.Staying.{next_seq}
use Rattle.gs_history.proofs.Called.{Adds, next_adds}
use Rattle.gs_life.specs.Origin.{Origin, run_of}
use Rattle.gs_engine.proofs.FullTalk.{Full, dialogue_full}

-- ---- how it goes on

answered_full : (r : Run) (at : Standing) (q : Question) (next : Answer → Dialogue)
    (o : Option Answer) → Full r.texts.ops at.rest → ((a : Answer) → Full r.texts.ops (next a))
    → Full r.texts.ops (answered r at q next o).rest
answered_full r at q next None here k = here
answered_full r at q next (Some a) here k = k a

step_full : (r : Run) (at : Standing) (d : Dialogue) → Full r.texts.ops at.rest
    → Full r.texts.ops d → Full r.texts.ops (step_by r at d).rest
step_full r at (Done n s) here full = here
step_full r at (Stop q s) here full = here
step_full r at (Ask q s next) here full =
    answered_full r at q next (reply r.texts.ops at.world q) here full.1

start_full : (r : Run) → Full r.texts.ops (dialogue r.texts r.fuel)
    → Full r.texts.ops (seq r zero).rest
unfolding seq
start_full r full = full

rest_full : (r : Run) (k : ℕ) → Full r.texts.ops (dialogue r.texts r.fuel)
    → Full r.texts.ops (seq r k).rest
rest_full r zero full = start_full r full
rest_full r (suc k) full =
    let here = rest_full r k full in
    subst (λ (at : Standing). Full r.texts.ops at.rest) (sym (next_seq r k))
    (step_full r (seq r k) (seq r k).rest here here)

-- ---- its tasks

abbrev AreFull : List Task → Type 0
AreFull ts = (n : ℕ) (t : Task) → task_at ts n ≡ Some t → length t.called ≡ length t.params

one_more : (r : Run) (w : World) (d : Dialogue) (after : List Task) (added : List Act)
    → AreFull w.tasks → Full r.texts.ops d → Adds r w d after added → AreFull after
one_more r w d after added full rest (inl none) n t e =
    full n t (ap (λ (ts : List Task). task_at ts n) (sym none.same) ∙ e)
one_more r w d after added full rest (inr one) zero t e = absurd cc
one_more r w d after added full rest (inr one) (suc n) t e =
    elim (get_either w.tasks (task_of r.law r.texts.ops w.files one.op one.args) n t
    (ap (λ (ts : List Task). slice_get ts n) (sym one.more) ∙ e)) [
      | inl before ↦ full (suc n) t before
      | inr last ↦
          let asks : Full r.texts.ops (Ask (Call one.op one.line one.args) one.state one.next) =
          subst (λ (x : Dialogue). Full r.texts.ops x) one.question rest in
          subst (λ (u : Task). length u.called ≡ length u.params) last.1 asks.0
    ]

no_tasks : (r : Run) → AreFull (seq r zero).world.tasks
unfolding seq
no_tasks r zero t e = absurd cc
no_tasks r (suc n) t e = absurd cc

tasks_full : (r : Run) (k : ℕ) → Full r.texts.ops (dialogue r.texts r.fuel)
    → AreFull (seq r k).world.tasks
tasks_full r zero full = no_tasks r
tasks_full r (suc k) full =
    subst (λ (at : Standing). AreFull at.world.tasks) (sym (next_seq r k))
    (one_more r (seq r k).world (seq r k).rest (step r (seq r k)).world.tasks
    (acts_by r (seq r k).world (seq r k).rest) (tasks_full r k full) (rest_full r k full)
    (next_adds r k))

-- each task's call passes something at each place of its operation
abbrev pub CallsAreFull : Origin → Type 0
CallsAreFull o = (fuel n : ℕ) (t : Task) → IsTask (run_of o fuel) n t
    → length t.called ≡ length t.params

calls_full : (o : Origin) → ProgramPasses o.given.ops o.given.program → CallsAreFull o
calls_full o passes fuel n t is =
    tasks_full (run_of o fuel) is.moment (dialogue_full o.given fuel passes.body) n t is.is

checked_passes : (c : Checked) → ProgramPasses (interface_in c).ops (program_in c)
checked_passes c = program_passes (interface_in c).ops (program_in c)
    (nothing_there (fault_of (interface_in c).ops (program_in c)) c.passed)

main_passes : (m : Main)
    → ProgramPasses (talking m).given.ops (talking m).given.program
unfolding talking
main_passes m = checked_passes m.script.checked

-- of a main program, which passed the checks
pub main_full : (m : Main) (o : Origin) → (talking m).given ≡ o.given → CallsAreFull o
main_full m o same =
    calls_full o (subst (λ (t : Given). ProgramPasses t.ops t.program) same (main_passes m))
