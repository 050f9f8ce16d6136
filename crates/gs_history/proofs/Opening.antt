-- Tasks that are open.
use Rattle.std.proofs.Common.{◌≡◌, ◌≢◌, ◌+◌, ◌-◌, ℕ, Bool, true, false, refl, sym, ap, ◌∙◌, subst, [], ◌∷◌, arith, Option, Some, None, IsSome, is_some, if◌then◌else◌, inl, inr}
use Rattle.std.specs.Prelude.{List, ◌==◌}
use Rattle.std.proofs.lemmas.Bool.{ne_eqb}
use Rattle.std.proofs.lemmas.Bool.Decides.{eqb_tells}
use Rattle.gs_types.specs.declared.job.Job.{Job}
use Rattle.gs_types.specs.History.{History, noted, started, refused, finished, failed, abandoned, outs_in, worker_in, at_worker, busy, task_failures, worker_failures}
use Rattle.gs_talk.specs.Seq.{Task}
use Rattle.gs_history.specs.Setup.{Noting, Setup}
use Rattle.gs_history.specs.Notes.{AreNoted}
use Rattle.gs_history.specs.Ready.{IsOpen, IsReady}
use Rattle.gs_history.specs.Laws.{FlyingIsOpen}
use Rattle.gs_history.proofs.Events.{KeepsDone, within_more, event_keeps}

-- an open task stays open until it is done
pub open_more : (s : Setup) (h g : History) (n : ℕ) (t : Task) → KeepsDone h g → outs_in g n ≡ None → IsOpen s h n t → IsOpen s g n t
open_more s h g n t keeps none is = record {
  moment = is.moment;
  within = within_more s h g keeps is.moment is.within;
  called = is.called;
  unfinished = none;
  inputs = λ m e. keeps m (is.inputs m e);
}

pub open_same : (s : Setup) (h g : History) (n : ℕ) (t : Task) → ((m : ℕ) → outs_in g m ≡ outs_in h m) → IsOpen s h n t → IsOpen s g n t
open_same s h g n t same is = open_more s h g n t (λ m done. ap is_some (same m) ∙ done) (same n ∙ is.unfinished) is

-- ---- while there are notes alone

pub record IsCalm (h : History) : Type 0 where
  pub workers : (n : ℕ) → worker_in h n ≡ None
  pub loads : (w : ℕ) → busy h w ≡ 0
  pub by_task : (n : ℕ) → task_failures h n ≡ 0
  pub by_worker : (w : ℕ) → worker_failures h w ≡ 0

pub calm : (s : Setup) (xs : List Noting) (h : History) → AreNoted s xs h → IsCalm h
calm s [] [] is = record { workers = λ n. refl; loads = λ w. refl; by_task = λ n. refl; by_worker = λ w. refl }
calm s [] (e ∷ h) is = absurd is
calm s (x ∷ xs) [] is = absurd is
calm s (x ∷ xs) (noted n outs ∷ h) is = let rest = calm s xs h is.1 in record { workers = rest.workers; loads = rest.loads; by_task = rest.by_task; by_worker = rest.by_worker }
calm s (x ∷ xs) (started n w job ∷ h) is = absurd is
calm s (x ∷ xs) (refused n w ∷ h) is = absurd is
calm s (x ∷ xs) (finished n outs ∷ h) is = absurd is
calm s (x ∷ xs) (failed n ∷ h) is = absurd is
calm s (x ∷ xs) (abandoned ∷ h) is = absurd is

pub not_none : {A : Type 0} (o : Option A) → IsSome o → o ≡ None → ⊥
not_none None is e = absurd cc
not_none (Some x) is e = absurd cc

flies_not : (o : Option ℕ) (b : Bool) → b ≡ true → IsSome (if b then None else o) → ⊥
flies_not o true e is = absurd cc
flies_not o false e is = absurd cc

flew_on : (o : Option ℕ) (b : Bool) → b ≡ false → IsSome (if b then None else o) → IsSome o
flew_on o true e is = absurd cc
flew_on o false e is = is

-- ---- a task in flight is open

begun_open : (s : Setup) (h : History) (m w n : ℕ) (job : Job) → ((t : Task) × IsOpen s h m t) → (IsSome (worker_in h n) → (t : Task) × IsOpen s h n t) → IsSome (worker_in (started m w job ∷ h) n) → (t : Task) × IsOpen s (started m w job ∷ h) n t
begun_open s h m w n job this before is = elim (eqb_tells m n) [
  | inl same ↦ (this.0, open_same s h (started m w job ∷ h) n this.0 (λ i. refl) (subst (λ (i : ℕ). IsOpen s h i this.0) same.1 this.1))
  | inr other ↦
      let was = before (ap (λ (b : Bool). is_some (if b then Some w else worker_in h n)) (sym other.0) ∙ is) in
      (was.0, open_same s h (started m w job ∷ h) n was.0 (λ i. refl) was.1)
]

pub flying_is_open : FlyingIsOpen
flying_is_open s [] n good is = absurd (not_none (worker_in [] n) is refl)
flying_is_open s (noted m outs ∷ h) n good is = absurd (not_none (worker_in (noted m outs ∷ h) n) is ((calm s s.notes (noted m outs ∷ h) good).workers n))
flying_is_open s (started m w job ∷ h) n good is =
    let start = good.1 in
    begun_open s h m w n job (start.task, start.due.ready.opened) (flying_is_open s h n good.0) is
flying_is_open s (refused m w ∷ h) n good is =
    let was = flying_is_open s h n good.0 is in (was.0, open_same s h (refused m w ∷ h) n was.0 (λ i. refl) was.1)
flying_is_open s (finished m outs ∷ h) n good is = elim (eqb_tells m n) [
  | inl same ↦ absurd (flies_not (worker_in h n) (m == n) same.0 is)
  | inr other ↦
      let was = flying_is_open s h n good.0 (flew_on (worker_in h n) (m == n) other.0 is) in
      (was.0, open_more s h (finished m outs ∷ h) n was.0 (event_keeps (finished m outs) h) (ap (λ (b : Bool). if b then Some outs else outs_in h n) other.0 ∙ was.1.unfinished) was.1)
]
flying_is_open s (failed m ∷ h) n good is = elim (eqb_tells m n) [
  | inl same ↦ absurd (flies_not (worker_in h n) (m == n) same.0 is)
  | inr other ↦
      let was = flying_is_open s h n good.0 (flew_on (worker_in h n) (m == n) other.0 is) in
      (was.0, open_same s h (failed m ∷ h) n was.0 (λ i. refl) was.1)
]
flying_is_open s (abandoned ∷ h) n good is = absurd (not_none (worker_in (abandoned ∷ h) n) is refl)

-- ---- after a job has ended

-- as the first history, but that task n is no longer in flight and has failed once more, as has its
-- worker
pub record IsAfterFailure (a b : History) (n : ℕ) : Type 0 where
  pub outs : (m : ℕ) → outs_in b m ≡ outs_in a m
  pub workers : (m : ℕ) → worker_in b m ≡ (if n == m then None else worker_in a m)
  pub loads : (u : ℕ) → busy b u ≡ busy a u - at_worker (worker_in a n) u
  pub by_task : (m : ℕ) → task_failures b m ≡ task_failures a m + (if n == m then 1 else 0)
  pub by_worker : (u : ℕ) → worker_failures b u ≡ worker_failures a u + at_worker (worker_in a n) u

pub after_failed : (h : History) (n : ℕ) → IsAfterFailure h (failed n ∷ h) n
after_failed h n = record { outs = λ m. refl; workers = λ m. refl; loads = λ u. refl; by_task = λ m. refl; by_worker = λ u. refl }

pub if_here : {A : Type 0} (n : ℕ) (a b : A) → (if n == n then a else b) ≡ a
if_here n a b = elim (eqb_tells n n) [ inl same ↦ ap (λ (t : Bool). if t then a else b) same.0 | inr other ↦ absurd (other.1 refl) ]

pub if_other : {A : Type 0} (n m : ℕ) (a b : A) → n ≢ m → (if n == m then a else b) ≡ b
if_other n m a b ne = ap (λ (t : Bool). if t then a else b) (ne_eqb n m ne)

pub after_refused : (h : History) (n w : ℕ) (job : Job) → worker_in h n ≡ None → IsAfterFailure (started n w job ∷ h) (refused n w ∷ h) n
after_refused h n w job idle =
    let on : (u : ℕ) → at_worker (worker_in (started n w job ∷ h) n) u ≡ at_worker (Some w) u = λ u. ap (λ (o : Option ℕ). at_worker o u) (if_here n (Some w) (worker_in h n)) in
    record {
      outs = λ m. refl;
      workers = λ m. elim (eqb_tells n m) [
        | inl same ↦ ap (worker_in h) (sym same.1) ∙ idle ∙ sym (ap (λ (t : Bool). if t then None else (if t then Some w else worker_in h m)) same.0)
        | inr other ↦ sym (ap (λ (t : Bool). if t then None else (if t then Some w else worker_in h m)) other.0)
      ];
      loads = λ u. let o = on u in omega arith;
      by_task = λ m. refl;
      by_worker = λ u. let o = on u in omega arith;
    }

-- what was ready still is
pub ready_after : (s : Setup) (a b : History) (n m : ℕ) (t : Task) → IsAfterFailure a b n → IsReady s a m t → IsReady s b m t
ready_after s a b n m t after ready = record {
  opened = open_same s a b m t after.outs ready.opened;
  idle = after.workers m ∙ elim (eqb_tells n m) [
    | inl same ↦ ap (λ (i : Bool). if i then None else worker_in a m) same.0
    | inr other ↦ ap (λ (i : Bool). if i then None else worker_in a m) other.0 ∙ ready.idle
  ];
}

pub ready_before : (s : Setup) (a b : History) (n m : ℕ) (t : Task) → IsAfterFailure a b n → n ≢ m → IsReady s b m t → IsReady s a m t
ready_before s a b n m t after ne ready = record {
  opened = open_same s b a m t (λ i. sym (after.outs i)) ready.opened;
  idle = sym (if_other n m None (worker_in a m) ne) ∙ sym (after.workers m) ∙ ready.idle;
}

-- the task itself is ready again
pub ready_again : (s : Setup) (a b : History) (n : ℕ) (t : Task) → IsAfterFailure a b n → IsOpen s a n t → IsReady s b n t
ready_again s a b n t after is = record {
  opened = open_same s a b n t after.outs is;
  idle = after.workers n ∙ if_here n None (worker_in a n);
}

-- what is ready after a start was ready before it
pub ready_started : (s : Setup) (h : History) (n w : ℕ) (job : Job) (m : ℕ) (t : Task) → IsReady s (started n w job ∷ h) m t → IsReady s h m t × (n ≢ m)
ready_started s h n w job m t ready = elim (eqb_tells n m) [
  | inl same ↦ let gone : Some w ≡ None = ap (λ (b : Bool). if b then Some w else worker_in h m) (sym same.0) ∙ ready.idle in absurd cc
  | inr other ↦ (
    record {
      opened = open_same s (started n w job ∷ h) h m t (λ i. refl) ready.opened;
      idle = ap (λ (b : Bool). if b then Some w else worker_in h m) (sym other.0) ∙ ready.idle;
    },
    other.1,
  )
]
