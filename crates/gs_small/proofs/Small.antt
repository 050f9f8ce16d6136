-- The tasks of a run are small.
use Rattle.std.proofs.Common.{◌≡◌, ◌<◌, ℕ, zero, suc, sym, ap, ◌∙◌, subst, List, [], ◌∷◌, ◌++◌, length, Option, Some, None, arith, inl, inr}
use Rattle.gs_idl.specs.Interface.{IsOpsSized}
use Rattle.gs_talk.specs.declared.question.Answer.{Answer}
use Rattle.gs_talk.specs.Talk.{Dialogue, Done, Ask, Stop}
use Rattle.gs_talk.specs.Seq.{Run, World, Standing, Task, seq, step, step_by, answered, reply, task_at, task_of}
use Rattle.gs_talk.specs.Actions.{Act, acts_by}
use Rattle.gs_talk_laws.specs.Uses.{Told}
use Rattle.gs_talk_laws.proofs.Proper.{Proper}
use Rattle.gs_talk_laws.proofs.Lists.{get_either}
use Rattle.gs_talk_laws.proofs.Staying.{next_seq}
use Rattle.gs_talk_laws.proofs.Telling.{seq_told}
use Rattle.gs_history.specs.Setup.{Setup, world_at, rest_at}
use Rattle.gs_history.proofs.Called.{OneTask, Adds, next_adds}
use Rattle.gs_tables.specs.Starts.{IsSmall}
use Rattle.gs_small.specs.Laws.{TasksAreSmall}
use Rattle.gs_small.proofs.Asking.{AsksKnown}
use Rattle.gs_small.proofs.Programs.{dialogue_known}
use Rattle.gs_small.proofs.Sizes.{call_bytes}

-- ---- what is asked at each moment

next_known : (r : Run) (at : Standing) (d : Dialogue) → AsksKnown (length r.texts.ops) at.rest → AsksKnown (length r.texts.ops) d → AsksKnown (length r.texts.ops) (step_by r at d).rest
next_known r at (Done n s) h k = h
next_known r at (Stop q s) h k = h
next_known r at (Ask q s next) h k = of_reply (reply r.texts.ops at.world q)
  where
    of_reply : (o : Option Answer) → AsksKnown (length r.texts.ops) (answered r at q next o).rest
    of_reply None = h
    of_reply (Some a) = k.1 a

first_known : (r : Run) → AsksKnown (length r.texts.ops) (seq r zero).rest
unfolding seq
first_known r = dialogue_known r.texts r.fuel

seq_known : (r : Run) (k : ℕ) → AsksKnown (length r.texts.ops) (seq r k).rest
seq_known r zero = first_known r
seq_known r (suc k) = rw (next_seq r k) (next_known r (seq r k) (seq r k).rest (seq_known r k) (seq_known r k))

-- ---- tasks

-- the task that is called is small
called_small : (r : Run) (w : World) (d : Dialogue) (told : Told) (after : List Task) (added : List Act) → IsOpsSized r.texts.ops → AsksKnown (length r.texts.ops) d → Proper r.texts.ops told d →
    (one : OneTask r w d after added) → IsSmall (task_of r.law r.texts.ops w.files one.op one.args)
called_small r w d told after added sized known proper one =
    let asked = subst (AsksKnown (length r.texts.ops)) one.question known in
    let right = subst (Proper r.texts.ops told) one.question proper in
    let lt : one.op < length r.texts.ops = asked.0 in
    let few = sized.few in
    record {
      op = omega arith;
      bytes = call_bytes r.texts.ops w.files one.op one.args sized right.1 one.goes;
    }

last_or_before : (xs : List Task) (x : Task) (n : ℕ) (t : Task) → ((m : ℕ) (u : Task) → task_at xs m ≡ Some u → IsSmall u) → IsSmall x → task_at (xs ++ x ∷ []) n ≡ Some t → IsSmall t
last_or_before xs x zero t before last e = absurd cc
last_or_before xs x (suc n) t before last e = elim (get_either xs x n t e) [
  | inl is ↦ before (suc n) t is
  | inr is ↦ subst IsSmall is.1 last
]

one_more : (r : Run) (w : World) (d : Dialogue) (told : Told) (after : List Task) (added : List Act) → IsOpsSized r.texts.ops → AsksKnown (length r.texts.ops) d → Proper r.texts.ops told d →
    ((m : ℕ) (u : Task) → task_at w.tasks m ≡ Some u → IsSmall u) → Adds r w d after added → (n : ℕ) (t : Task) → task_at after n ≡ Some t → IsSmall t
one_more r w d told after added sized known proper before (inl same) n t e = before n t (ap (λ (ts : List Task). task_at ts n) (sym same.same) ∙ e)
one_more r w d told after added sized known proper before (inr one) n t e =
    last_or_before w.tasks (task_of r.law r.texts.ops w.files one.op one.args) n t before (called_small r w d told after added sized known proper one)
    (ap (λ (ts : List Task). task_at ts n) (sym one.more) ∙ e)

first_small : (s : Setup) (n : ℕ) (t : Task) → task_at (world_at s zero).tasks n ≡ Some t → IsSmall t
unfolding seq
first_small s zero t e = absurd cc
first_small s (suc n) t e = absurd cc

pub tasks_are_small : TasksAreSmall
tasks_are_small s sized zero n t e = first_small s n t e
tasks_are_small s sized (suc k) n t e =
    let told = seq_told s.run k in
    one_more s.run (world_at s k) (rest_at s k) told.told (step s.run (seq s.run k)).world.tasks (acts_by s.run (world_at s k) (rest_at s k)) sized (seq_known s.run k) told.proper
    (λ m u is. tasks_are_small s sized k m u is) (next_adds s.run k) n t
    (ap (λ (w : World). task_at w.tasks n) (ap (λ i. i.world) (sym (next_seq s.run k))) ∙ e)
