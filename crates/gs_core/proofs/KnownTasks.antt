-- Each task of the sequential run is of one of the operations.
use Rattle.std.proofs.Common.{◌≡◌, ℕ, zero, suc, ◌<◌, ◌++◌, List, [], ◌∷◌, length, Option, Some, None, slice_get, refl, sym, subst}
use Rattle.std.specs.Prelude.{option_map}
use Rattle.gs_idl.specs.Interface.{Signature, params_at}
use Rattle.gs_talk.specs.declared.question.CallArg.{CallArg}
use Rattle.gs_talk.specs.declared.question.Question.{Question}
use Rattle.gs_talk.specs.declared.question.Question.TheVariants.{Call, Use, OpenFile, CloseFile, Barrier, End, Fault, FuelOut}
use Rattle.gs_talk.specs.declared.question.Answer.{Answer}
use Rattle.gs_talk.specs.Talk.{Dialogue, Done, Ask, Stop}
use Rattle.gs_talk.specs.Seq.{Run, World, Task, Standing, seq, step_by, answered, reply, first_refused, task_of, task_at, after_call, world_after}
use Rattle.gs_types.specs.History.{History}
use Rattle.gs_history.specs.Setup.{Setup, world_at}
use Rattle.gs_main.specs.Shown.{talking}
use Rattle.gs_core.specs.Core.{Stands}
use Rattle.gs_core.specs.declared.machine.Core.{Core}
use Rattle.gs_core.proofs.Known.{IsKnownCall, Known, dialogue_known}

abbrev AreKnownTasks : List Signature → List Task → Type 0
AreKnownTasks ops tasks = (i : ℕ) (t : Task) → slice_get tasks i ≡ Some t → t.op < length ops

record KnownAt (ops : List Signature) (at : Standing) : Type 0 where
  rest : Known ops at.rest
  tasks : AreKnownTasks ops at.world.tasks

tasks_more : (ops : List Signature) (tasks : List Task) (t : Task) → t.op < length ops
    → AreKnownTasks ops tasks → AreKnownTasks ops (tasks ++ t ∷ [])
tasks_more ops [] t lt known zero u is = let same : t ≡ u = cc in
    subst (λ (x : Task). x.op < length ops) same lt
tasks_more ops [] t lt known (suc i) u is = absurd cc
tasks_more ops (x ∷ tasks) t lt known zero u is = known zero u is
tasks_more ops (x ∷ tasks) t lt known (suc i) u is =
    tasks_more ops tasks t lt (λ j v at. known (suc j) v at) i u is

call_tasks : (r : Run) (w : World) (op line : ℕ) (args : List CallArg) (o : Option Answer)
    → op < length r.texts.ops → AreKnownTasks r.texts.ops w.tasks
    → AreKnownTasks r.texts.ops (after_call r.law r.texts.ops op args o w).tasks
call_tasks r w op line args None lt known =
    tasks_more r.texts.ops w.tasks (task_of r.law r.texts.ops w.files op args) lt known
call_tasks r w op line args (Some a) lt known = known

tasks_after : (r : Run) (w : World) (q : Question) → IsKnownCall r.texts.ops q
    → AreKnownTasks r.texts.ops w.tasks
    → AreKnownTasks r.texts.ops (world_after r.law r.texts.ops w q).tasks
tasks_after r w (Call op line args) lt known =
    call_tasks r w op line args (first_refused w.files (params_at r.texts.ops op) args) lt known
tasks_after r w (Use n place) lt known = known
tasks_after r w (OpenFile name mode line) lt known = known
tasks_after r w (CloseFile name bytes) lt known = known
tasks_after r w Barrier lt known = known
tasks_after r w End lt known = known
tasks_after r w (Fault line kind) lt known = known
tasks_after r w FuelOut lt known = known

known_answered : (r : Run) (at : Standing) (q : Question) (next : Answer → Dialogue)
    (o : Option Answer) → IsKnownCall r.texts.ops q → ((a : Answer) → Known r.texts.ops (next a))
    → KnownAt r.texts.ops at → KnownAt r.texts.ops (answered r at q next o)
known_answered r at q next None lt rest known = known
known_answered r at q next (Some a) lt rest known =
    record { rest = rest a; tasks = tasks_after r at.world q lt known.tasks }

known_step : (r : Run) (at : Standing) (d : Dialogue) → Known r.texts.ops d
    → KnownAt r.texts.ops at → KnownAt r.texts.ops (step_by r at d)
known_step r at (Done n s) rest known = known
known_step r at (Stop q s) rest known = known
known_step r at (Ask q s next) rest known =
    known_answered r at q next (reply r.texts.ops at.world q) rest.0 rest.1 known

known_at : (r : Run) (k : ℕ) → KnownAt r.texts.ops (seq r k)
unfolding seq
known_at r zero = record {
  rest = dialogue_known r.texts r.fuel;
  tasks = λ i t is. absurd cc;
}
known_at r (suc k) =
    known_step r (seq r k) (seq r k).rest (known_at r k).rest (known_at r k)

-- a task is of one of the operations
pub task_known : (r : Run) (k n : ℕ) (t : Task) → task_at (seq r k).world.tasks n ≡ Some t
    → t.op < length r.texts.ops
task_known r k zero t is = absurd cc
task_known r k (suc n) t is = (known_at r k).tasks n t is

-- ---- what a core tells of it

called_op : (ops : List Signature) (o : Option Task) (op : ℕ)
    → Some op ≡ option_map (λ (t : Task). t.op) o
    → ((t : Task) → o ≡ Some t → t.op < length ops) → op < length ops
called_op ops (Some t) op is known =
    let same : t.op ≡ op = cc in
    subst (λ (i : ℕ). i < length ops) same (known t refl)
called_op ops None op is known = absurd cc

-- the operation of a task is one of the program's
pub operation_known : (core : Core) (s : Setup) (k : ℕ) (h : History) (n op : ℕ)
    → Stands core s k h
    → Some op ≡ option_map (λ (t : Task). t.op) (task_at (world_at s k).tasks n)
    → op < length (talking core.main).interface.ops
operation_known core s k h n op stands is =
    subst (λ (ops : List Signature). op < length ops) (sym stands.made.operations)
    (called_op s.run.texts.ops (task_at (world_at s k).tasks n) op is
    (λ t at. task_known s.run k n t at))
