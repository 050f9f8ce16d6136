-- A run is stuck only at what a lost task would have left.
use Rattle.std.proofs.Common.{◌≡◌, ◌||◌, ℕ, zero, suc, Bool, true, false, refl, sym, ap, ◌∙◌, subst, List, [], ◌∷◌, length, Option, Some, None, is_none, slice_get, if◌then◌else◌, nat_le, ◌⊎◌, inl, inr}
use Rattle.std.specs.List.{list_any}
use Rattle.gs_idl.specs.Interface.{params_at}
use Rattle.gs_types.specs.declared.limits.TheConstants.{FILE_LIMIT}
use Rattle.gs_types.specs.declared.value.Value.{Value}
use Rattle.gs_types.specs.declared.note.Version.{Version}
use Rattle.gs_types.specs.declared.note.Version.TheVariants.{Original, Out, Main}
use Rattle.gs_talk.specs.declared.question.CallArg.{CallArg}
use Rattle.gs_talk.specs.declared.question.CallArg.TheVariants as arg
use Rattle.gs_talk.specs.declared.question.Question.{Question}
use Rattle.gs_talk.specs.declared.question.Question.TheVariants.{Call, Use, OpenFile, CloseFile, Barrier, End, Fault, FuelOut}
use Rattle.gs_talk.specs.declared.question.Answer.{Answer}
use Rattle.gs_talk.specs.declared.question.Answer.TheVariants.{Bytes, TooLong}
use Rattle.gs_talk.specs.Talk.{State, Dialogue, Done, Ask, Stop}
use Rattle.gs_talk.specs.Seq.{Run, Content, Known, Lost, Task, seq, reply, went_unless, val_of, opened, unless_lost, any_lost, is_lost, first_refused, content_of, output_of, task_at, is_stuck_by}
use Rattle.gs_talk_laws.specs.Numbers.{at_number}
use Rattle.gs_talk_laws.specs.Uses.{Told, IsCalled, is_left}
use Rattle.gs_talk_laws.specs.Versions.{left_by, closed_as, version_value, writings, latest, IsLeft, IsStored}
use Rattle.gs_talk_laws.specs.Stuck.{AreKnown, UsesAreOfTasks, FilesAreKnown, StuckIsLost}
use Rattle.gs_talk_laws.proofs.Proper.{Right, Proper}
use Rattle.gs_talk_laws.proofs.Telling.{called_all, seq_told}
use Rattle.gs_talk_laws.proofs.Stays.{files_are_versions, latest_is_stored, tasks_read_versions}
use Rattle.gs_talk_laws.proofs.Places.{task_place, left_value, left_file}

-- ---- uses

some_args : (t : Task) (args : List CallArg) → ◌≡◌ {A = Option (List CallArg)} (Some t.called) (Some args) → t.called ≡ args
some_args t args e = cc

called_get : (tasks : List Task) (i : ℕ) (args : List CallArg) → slice_get (called_all tasks) i ≡ Some args → (t : Task) × (slice_get tasks i ≡ Some t) × (t.called ≡ args)
called_get [] i args e = absurd (cc)
called_get (t ∷ tasks) zero args e = (t, refl, some_args t args e)
called_get (t ∷ tasks) (suc i) args e = called_get tasks i args e

called_task : (tasks : List Task) (n : ℕ) (args : List CallArg) → at_number (called_all tasks) n ≡ Some args → (t : Task) × (task_at tasks n ≡ Some t) × (t.called ≡ args)
called_task tasks zero args e = absurd (cc)
called_task tasks (suc n) args e = called_get tasks n args e

value_left : (r : Run) (k n place : ℕ) (t : Task) (a : CallArg) → task_at (seq r k).world.tasks n ≡ Some t → at_number t.called place ≡ Some a → is_left a ≡ true → (o : Option (List Value)) → t.outs ≡ o →
    (is_lost t ≡ true) ⊎ ((v : Value) × (output_of (Some t) place ≡ Some v))
value_left r k n place t a is at left None gave = inl (ap is_none gave)
value_left r k n zero t a is at left (Some outs) gave = absurd (cc)
value_left r k n (suc j) t a is at left (Some outs) gave =
    let h = tasks_read_versions r k n t is in
    inr (left_value t a j left (task_place r (seq r k).world n t h.0 j a outs h.2 at gave))

use_of_task : (r : Run) (k n place : ℕ) (calls : List (List CallArg)) → calls ≡ called_all (seq r k).world.tasks → IsCalled calls n place →
    (t : Task) × (task_at (seq r k).world.tasks n ≡ Some t) × ((is_lost t ≡ true) ⊎ ((v : Value) × (output_of (Some t) place ≡ Some v)))
use_of_task r k n place calls same h =
    let there = called_task (seq r k).world.tasks n h.args (ap (λ l. at_number l n) (sym same) ∙ h.called) in
    let t = there.0 in
    (t, there.1, value_left r k n place t h.arg there.1 (ap (λ l. at_number l place) there.2 ∙ h.stands) h.left t.outs refl)

pub uses_are_of_tasks : UsesAreOfTasks
uses_are_of_tasks r k n place s next e =
    let h = seq_told r k in
    let p : Proper r.texts.ops h.told (Ask (Use n place) s next) = subst (λ (d : Dialogue). Proper r.texts.ops h.told d) e h.proper in
    use_of_task r k n place h.told.calls h.calls p.1.called

-- ---- files

either_false : (b c : Bool) → (b || c) ≡ false → (b ≡ false) × (c ≡ false)
either_false true c e = absurd (cc)
either_false false c e = (refl, e)

same_task : (t u : Task) → ◌≡◌ {A = Option Task} (Some t) (Some u) → t ≡ u
same_task t u e = cc

none_lost : (tasks : List Task) (i : ℕ) (t : Task) → list_any is_lost tasks ≡ false → slice_get tasks i ≡ Some t → is_lost t ≡ false
none_lost [] i t h e = absurd (cc)
none_lost (x ∷ tasks) zero t h e = ap is_lost (sym (same_task x t e)) ∙ (either_false (is_lost x) (list_any is_lost tasks) h).0
none_lost (x ∷ tasks) (suc i) t h e = none_lost tasks i t (either_false (is_lost x) (list_any is_lost tasks) h).1 e

task_kept : (tasks : List Task) (n : ℕ) (t : Task) → list_any is_lost tasks ≡ false → task_at tasks n ≡ Some t → is_lost t ≡ false
task_kept tasks zero t h e = absurd (cc)
task_kept tasks (suc n) t h e = none_lost tasks n t h e

some_content : (a b : Content) → ◌≡◌ {A = Option Content} (Some a) (Some b) → a ≡ b
some_content a b e = cc

-- what a task that isn't lost leaves isn't lost
output_known : (r : Run) (k n place : ℕ) (name : List ℕ) → any_lost (seq r k).world ≡ false → (h : IsLeft (seq r k).world.tasks n place name) → (o : Option (List Value)) → h.task.outs ≡ o →
    version_value r.files (seq r k).world (Out n place) ≡ Some Lost → ⊥
output_known r k n place name kept h None gave e = let a = task_kept (seq r k).world.tasks n h.task kept h.is in let b : is_lost h.task ≡ true = ap is_none gave in let c : true ≡ false = sym b ∙ a in cc
output_known r k n zero name kept h (Some outs) gave e = absurd (let f = h.passed in cc)
output_known r k n (suc j) name kept h (Some outs) gave e =
    let t = h.task in
    let of = tasks_read_versions r k n t h.is in
    let left = left_file t name j h.param h.takes h.writes (task_place r (seq r k).world n t of.0 j (arg.File name) outs of.2 h.passed gave) in
    let value : version_value r.files (seq r k).world (Out n (suc j)) ≡ Some (content_of left.0) = ap (λ o. left_by (output_of o (suc j))) h.is ∙ ap left_by left.1 in
    left.2 (some_content (content_of left.0) Lost (sym value ∙ e))

version_known : (r : Run) (k : ℕ) (name : List ℕ) → AreKnown r.files → any_lost (seq r k).world ≡ false → (v : Version) → IsStored (seq r k).world name v → version_value r.files (seq r k).world v ≡ Some Lost → ⊥
version_known r k name known kept (Original x) h e = h
version_known r k name known kept (Out n place) h e = output_known r k n place name kept h h.task.outs refl e
version_known r k name known kept (Main m) h e =
    let is : Some (Known h.0) ≡ Some Lost = ap closed_as (sym h.1) ∙ e in
    let same = some_content (Known h.0) Lost is in cc

pub files_are_known : FilesAreKnown
files_are_known r k known kept name e =
    let last = latest name (writings r k) in
    let value : version_value r.files (seq r k).world last ≡ Some Lost = sym (files_are_versions r k name) ∙ e in
    elim (latest_is_stored r k name) [
      | inl first ↦ known name (ap (version_value r.files (seq r k).world) (sym first) ∙ value)
      | inr stored ↦ version_known r k name known kept last stored value
    ]

-- ---- stuck

no_answer : (o : Option Answer) → is_none o ≡ true → o ≡ None
no_answer None e = refl
no_answer (Some a) e = absurd (cc)

went_answers : (o : Option Answer) → is_none (went_unless o) ≡ true → ⊥
went_answers None e = cc
went_answers (Some a) e = cc

lost_content : (o : Option Content) → is_none (opened o) ≡ true → o ≡ Some Lost
lost_content None e = absurd (cc)
lost_content (Some Lost) e = refl
lost_content (Some (Known bytes)) e = absurd (of_test (nat_le (length bytes) FILE_LIMIT) e)
  where
    of_test : (b : Bool) → is_none (if b then Some (Bytes bytes) else Some TooLong) ≡ true → ⊥
    of_test true e = cc
    of_test false e = cc

barrier_lost : (b : Bool) → is_none (unless_lost b) ≡ true → b ≡ true
barrier_lost true e = refl
barrier_lost false e = absurd (cc)

value_answers : (o : Option Value) (v : Value) → o ≡ Some v → is_none (val_of o) ≡ true → ⊥
value_answers None v e h = cc
value_answers (Some u) v e h = cc

use_lost : (r : Run) (k n place : ℕ) → (t : Task) × (task_at (seq r k).world.tasks n ≡ Some t) × ((is_lost t ≡ true) ⊎ ((v : Value) × (output_of (Some t) place ≡ Some v))) →
    is_none (val_of (output_of (task_at (seq r k).world.tasks n) place)) ≡ true → any_lost (seq r k).world ≡ false → ⊥
use_lost r k n place h e kept = elim h.2 [
  | inl lost ↦ (let a = task_kept (seq r k).world.tasks n h.0 kept h.1 in let c : true ≡ false = sym lost ∙ a in cc)
  | inr v ↦ value_answers (output_of (task_at (seq r k).world.tasks n) place) v.0 (ap (λ o. output_of o place) h.1 ∙ v.1) e
]

asks_lost : (r : Run) (k : ℕ) (h : Told) (q : Question) (s : State) (next : Answer → Dialogue) → AreKnown r.files → (seq r k).rest ≡ Ask q s next → Right r.texts.ops h q → is_none (reply r.texts.ops (seq r k).world q) ≡ true → any_lost (seq r k).world ≡ false → ⊥
asks_lost r k h (Call op line args) s next known at right e kept = went_answers (first_refused (seq r k).world.files (params_at r.texts.ops op) args) e
asks_lost r k h (Use n place) s next known at right e kept = use_lost r k n place (uses_are_of_tasks r k n place s next at) e kept
asks_lost r k h (OpenFile name mode line) s next known at right e kept = files_are_known r k known kept name (lost_content ((seq r k).world.files name) e)
asks_lost r k h (CloseFile name bytes) s next known at right e kept = cc
asks_lost r k h Barrier s next known at right e kept = let lost = barrier_lost (any_lost (seq r k).world) e in let c : true ≡ false = sym lost ∙ kept in cc
asks_lost r k h End s next known at right e kept = right
asks_lost r k h (Fault line fault) s next known at right e kept = right
asks_lost r k h FuelOut s next known at right e kept = right

stuck_lost : (r : Run) (k : ℕ) (h : Told) (d : Dialogue) → AreKnown r.files → (seq r k).rest ≡ d → Proper r.texts.ops h d → is_stuck_by r.texts.ops (seq r k).world d ≡ true → any_lost (seq r k).world ≡ false → ⊥
stuck_lost r k h (Done n s) known at p e kept = cc
stuck_lost r k h (Stop q s) known at p e kept = let c : true ≡ false = sym e ∙ kept in cc
stuck_lost r k h (Ask q s next) known at p e kept = asks_lost r k h q s next known at p.1 e kept

unless_false : (b : Bool) → (b ≡ false → ⊥) → b ≡ true
unless_false true h = refl
unless_false false h = absurd (h refl)

pub stuck_is_lost : StuckIsLost
stuck_is_lost r k known h =
    let told = seq_told r k in
    unless_false (any_lost (seq r k).world) (stuck_lost r k told.told (seq r k).rest known refl told.proper h.stuck)
