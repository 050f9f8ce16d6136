-- What is done is what the sequential run has, and so is the end.
use Rattle.std.proofs.Common.{◌≡◌, ◌<◌, ◌+◌, ℕ, zero, suc, Bool, false, refl, sym, ap, ◌∙◌, subst, [], ◌∷◌, length, arith, Option, Some, None, IsSome, inl, inr, if◌then◌else◌}
use Rattle.std.specs.Prelude.{List, slice_get, is_none, ◌==◌}
use Rattle.std.specs.List.{list_any}
use Rattle.std.proofs.lemmas.Bool.Decides.{eqb_tells}
use Rattle.gs_types.specs.declared.value.Value.{Value}
use Rattle.gs_types.specs.History.{History, noted, started, refused, finished, failed, abandoned, outs_in}
use Rattle.gs_talk.specs.Talk.{Dialogue, Stop}
use Rattle.gs_talk.specs.Seq.{Run, Task, task_at, is_lost, any_lost, last_by, IsTask}
use Rattle.gs_talk_laws.proofs.Fuels.{same_tasks}
use Rattle.gs_talk_laws.proofs.Stays.{tasks_stay}
use Rattle.gs_history.specs.Setup.{Noting, Setup, world_at, count_at}
use Rattle.gs_history.specs.Notes.{note_at, IsNoted, AreNoted}
use Rattle.gs_history.specs.Frontier.{AllDone}
use Rattle.gs_history.specs.Good.{Good}
use Rattle.gs_history.specs.Laws.{NotesFit, DoneIsTrue, StoppedIsEnded, NotesOfAnyFuel}

-- ---- a task is one task

pub one_task : (r : Run) (n : ℕ) (t u : Task) → IsTask r n t → IsTask r n u → t ≡ u
one_task r n t u a b =
    let x = tasks_stay r a.moment (a.moment + b.moment) n t (omega arith) a.is in
    let y = tasks_stay r b.moment (a.moment + b.moment) n u (omega arith) b.is in
    let same : Some t ≡ Some u = sym x ∙ y in cc

pub notes_of_any_fuel : NotesOfAnyFuel
notes_of_any_fuel s x fuel t outs is gave values = record {
  number = refl;
  values = values;
  gave = λ u there form. ap (λ (i : Task). i.outs) (same_tasks s.run s.run.fuel fuel x.n u t there is) ∙ gave;
}

-- ---- what is done

-- what is noted of a task, and the note that says it
pub record HasNote (s : Setup) (xs : List Noting) (n : ℕ) (outs : List Value) : Type 0 where
  pub note : Noting
  pub first : note_at xs n ≡ Some note
  pub noted : IsNoted s note n outs

noted_first : (s : Setup) (x : Noting) (xs : List Noting) (m n : ℕ) (given outs : List Value) (o : Option (List Value)) → IsNoted s x m given → (o ≡ Some outs → HasNote s xs n outs) → (if m == n then Some given else o) ≡ Some outs → HasNote s (x ∷ xs) n outs
noted_first s x xs m n given outs o is later e = elim (eqb_tells m n) [
  | inl same ↦
      let found : Some given ≡ Some outs = ap (λ (b : Bool). if b then Some given else o) (sym same.0) ∙ e in
      let values : given ≡ outs = cc in
      record {
        note = x;
        first = ap (λ (i : ℕ). if i == n then Some x else note_at xs n) is.number ∙ ap (λ (b : Bool). if b then Some x else note_at xs n) same.0;
        noted = subst (λ (vs : List Value). IsNoted s x n vs) values (subst (λ (i : ℕ). IsNoted s x i given) same.1 is);
      }
  | inr other ↦
      let rest = later (ap (λ (b : Bool). if b then Some given else o) (sym other.0) ∙ e) in
      record {
        note = rest.note;
        first = ap (λ (i : ℕ). if i == n then Some x else note_at xs n) is.number ∙ ap (λ (b : Bool). if b then Some x else note_at xs n) other.0 ∙ rest.first;
        noted = rest.noted;
      }
]

pub noted_outs : (s : Setup) (xs : List Noting) (h : History) (n : ℕ) (outs : List Value) → AreNoted s xs h → outs_in h n ≡ Some outs → HasNote s xs n outs
noted_outs s [] [] n outs are e = absurd cc
noted_outs s [] (v ∷ h) n outs are e = absurd are
noted_outs s (x ∷ xs) [] n outs are e = absurd are
noted_outs s (x ∷ xs) (noted m given ∷ h) n outs are e = noted_first s x xs m n given outs (outs_in h n) are.0 (λ f. noted_outs s xs h n outs are.1 f) e
noted_outs s (x ∷ xs) (started m w job ∷ h) n outs are e = absurd are
noted_outs s (x ∷ xs) (refused m w ∷ h) n outs are e = absurd are
noted_outs s (x ∷ xs) (finished m given ∷ h) n outs are e = absurd are
noted_outs s (x ∷ xs) (failed m ∷ h) n outs are e = absurd are
noted_outs s (x ∷ xs) (abandoned ∷ h) n outs are e = absurd are

from_notes : (s : Setup) (k : ℕ) (h : History) (n : ℕ) (t : Task) (outs : List Value) → AreNoted s s.notes h → NotesFit s k → task_at (world_at s k).tasks n ≡ Some t → outs_in h n ≡ Some outs → t.outs ≡ Some outs
from_notes s k h n t outs are fit called e =
    let has = noted_outs s s.notes h n outs are e in
    has.noted.gave t (record { moment = k; is = called }) (fit n t has.note called has.first)

pub done_is_true : DoneIsTrue
done_is_true s k [] n t outs good fit called e = absurd cc
done_is_true s k (noted m given ∷ h) n t outs good fit called e = from_notes s k (noted m given ∷ h) n t outs good fit called e
done_is_true s k (started m w job ∷ h) n t outs good fit called e = done_is_true s k h n t outs good.0 fit called e
done_is_true s k (refused m w ∷ h) n t outs good fit called e = done_is_true s k h n t outs good.0 fit called e
done_is_true s k (failed m ∷ h) n t outs good fit called e = done_is_true s k h n t outs good.0 fit called e
done_is_true s k (abandoned ∷ h) n t outs good fit called e = done_is_true s k h n t outs good.0 fit called e
done_is_true s k (finished m given ∷ h) n t outs good fit called e = elim (eqb_tells m n) [
  | inl same ↦
      let finish = good.1 in
      let found : Some given ≡ Some outs = ap (λ (b : Bool). if b then Some given else outs_in h n) (sym same.0) ∙ e in
      let one = one_task s.run n t finish.task (record { moment = k; is = called }) (subst (λ (i : ℕ). IsTask s.run i finish.task) same.1 finish.called) in
      ap (λ (i : Task). i.outs) one ∙ finish.gave ∙ found
  | inr other ↦ done_is_true s k h n t outs good.0 fit called (ap (λ (b : Bool). if b then Some given else outs_in h n) (sym other.0) ∙ e)
]

-- ---- the end

lost_not : (o : Option (List Value)) (outs : List Value) (t : Task) → t.outs ≡ Some outs → is_lost t ≡ false
lost_not o outs t e = ap (λ (i : Option (List Value)). is_none i) e

none_lost : (xs : List Task) → ((i : ℕ) (t : Task) → slice_get xs i ≡ Some t → is_lost t ≡ false) → list_any is_lost xs ≡ false
none_lost [] each = refl
none_lost (t ∷ xs) each = let first = each 0 t refl in rw first (none_lost xs (λ i u e. each (suc i) u e))

some_of : {A : Type 0} (o : Option A) → IsSome o → (x : A) × (o ≡ Some x)
some_of None is = absurd cc
some_of (Some x) is = (x, refl)

get_below : {A : Type 0} (xs : List A) (i : ℕ) (x : A) → slice_get xs i ≡ Some x → i < length xs
get_below [] i x e = absurd cc
get_below (y ∷ xs) zero x e = omega arith
get_below (y ∷ xs) (suc i) x e = let lt = get_below xs i x e in omega arith

pub none_is_lost : (s : Setup) (k : ℕ) (h : History) → Good s h → NotesFit s k → AllDone h (count_at s k) → any_lost (world_at s k) ≡ false
none_is_lost s k h good fit done = none_lost (world_at s k).tasks (λ i t e.
    let is = some_of (outs_in h (suc i)) (done i (get_below (world_at s k).tasks i t e)) in
    lost_not None is.0 t (done_is_true s k h (suc i) t is.0 good fit e is.1))

pub stopped_is_ended : StoppedIsEnded
stopped_is_ended s k h q good fit stopped =
    let none = none_is_lost s k h good fit stopped.done in
    record { last = ap (λ (d : Dialogue). last_by (any_lost (world_at s k)) d) stopped.last.1 ∙ ap (λ (b : Bool). last_by b (Stop q stopped.last.0)) none }
