-- Something is always due.
use Rattle.std.proofs.Common.{◌≡◌, ◌<◌, ◌≤◌, ℕ, zero, suc, refl, subst, [], ◌∷◌, length, arith, Option, Some, None, IsSome, inl, inr, ◌⊎◌}
use Rattle.std.specs.Prelude.{List, slice_get}
use Rattle.std.proofs.lemmas.Bool.{cases_lt}
use Rattle.gs_types.specs.declared.limits.TheConstants.{WORKER_FAILURES}
use Rattle.gs_types.specs.declared.value.Value.{Value}
use Rattle.gs_types.specs.declared.note.Version.{Version}
use Rattle.gs_types.specs.declared.note.Version.TheVariants.{Original, Out, Main}
use Rattle.gs_types.specs.History.{History, outs_in, worker_in, worker_failures}
use Rattle.gs_talk.specs.declared.question.Question.{Question}
use Rattle.gs_talk.specs.declared.question.Question.TheVariants.{Call, Use, OpenFile, CloseFile, Barrier, End, Fault, FuelOut}
use Rattle.gs_talk.specs.Talk.{Dialogue, Done, Ask, Stop}
use Rattle.gs_talk.specs.Seq.{Task}
use Rattle.gs_talk_laws.specs.Uses.{Told}
use Rattle.gs_talk_laws.specs.Versions.{latest, writings, IsVersionOf}
use Rattle.gs_talk_laws.proofs.Proper.{Proper}
use Rattle.gs_talk_laws.proofs.Telling.{seq_told}
use Rattle.gs_talk_laws.proofs.Ending.{NeverDone, seq_never}
use Rattle.gs_talk_laws.proofs.Stays.{latest_is_stored}
use Rattle.gs_talk_laws.proofs.Stuck.{uses_are_of_tasks}
use Rattle.gs_talk_laws.proofs.Versions.{task_within}
use Rattle.gs_history.specs.Setup.{Setup, world_at, rest_at, count_at}
use Rattle.gs_history.specs.Frontier.{IsDone, AllDone, one_unless, unfinished, IsThere, MayGoOn, IsWithin, HasStopped}
use Rattle.gs_history.specs.Ready.{IsReady}
use Rattle.gs_history.specs.Laws.{CanGoOn, NoDeadlock}
use Rattle.gs_history.proofs.Losing.{clear_now}
use Rattle.gs_history.proofs.Flights.{idle_load}
use Rattle.gs_history.proofs.Dependences.{number_some, depends_before}

some_or_none : {A : Type 0} (o : Option A) → IsSome o ⊎ (o ≡ None)
some_or_none None = inr refl
some_or_none (Some x) = inl refl

get_some : {A : Type 0} (xs : List A) (i : ℕ) → i < length xs → (x : A) × (slice_get xs i ≡ Some x)
get_some [] i lt = absurd (omega arith)
get_some (x ∷ xs) zero lt = (x, refl)
get_some (x ∷ xs) (suc i) lt = get_some xs i (omega arith)

-- of the first n tasks
done_at : (h : History) (n m : ℕ) → AllDone h n → 0 < m → m ≤ n → IsDone h m
done_at h n zero done some le = absurd (omega arith)
done_at h n (suc m) done some le = done m (omega arith)

pub none_unfinished : (h : History) (n : ℕ) → AllDone h n → unfinished h n ≡ 0
none_unfinished h zero done = refl
none_unfinished h (suc n) done =
    let before = none_unfinished h n (λ m lt. done m (omega arith)) in
    let this = of_option (outs_in h (suc n)) (done n (omega arith)) in omega arith
  where
    of_option : (o : Option (List Value)) → IsSome o → one_unless o ≡ 0
    of_option None is = absurd cc
    of_option (Some outs) is = refl

-- ---- the least task that isn't done is ready

next_done : (s : Setup) (k : ℕ) (h : History) (n : ℕ) → IsWithin s h k → ((m : ℕ) → worker_in h m ≡ None) → ((m : ℕ) (t : Task) → IsReady s h m t → ⊥) → AllDone h n → n < count_at s k → IsDone h (suc n)
next_done s k h n within idle none done lt = elim (some_or_none (outs_in h (suc n))) [
  | inl is ↦ is
  | inr open_still ↦
      let t = get_some (world_at s k).tasks n lt in
      absurd (none (suc n) t.0 (record {
        opened = record {
          moment = k;
          within = within;
          called = t.1;
          unfinished = open_still;
          inputs = λ m depends. let b = depends_before s.run k (suc n) m t.0 t.1 depends in done_at h n m done b.0 (let c = b.1 in omega arith);
        };
        idle = idle (suc n);
      }))
]

all_done : (s : Setup) (k : ℕ) (h : History) → IsWithin s h k → ((m : ℕ) → worker_in h m ≡ None) → ((m : ℕ) (t : Task) → IsReady s h m t → ⊥) → (n : ℕ) → n ≤ count_at s k → AllDone h n
all_done s k h within idle none zero le m lt = absurd (omega arith)
all_done s k h within idle none (suc n) le m lt =
    let before = all_done s k h within idle none n (omega arith) in
    elim (cases_lt m n) [
      | inl below ↦ before m below
      | inr same ↦ let is : n ≡ m = omega arith in subst (λ (i : ℕ). IsDone h (suc i)) is (next_done s k h n within idle none before (omega arith))
    ]

-- ---- what comes next

one_at_most : (o : Option (List Value)) → one_unless o ≤ 1
one_at_most None = omega arith
one_at_most (Some outs) = omega arith

there_done : (s : Setup) (k : ℕ) (h : History) (name : List ℕ) (v : Version) → AllDone h (count_at s k) → IsVersionOf (world_at s k) name v → IsThere h v
there_done s k h name (Original x) done is = tt
there_done s k h name (Main i) done is = tt
there_done s k h name (Out n place) done (inl e) = absurd cc
there_done s k h name (Out n place) done (inr left) =
    done_at h (count_at s k) n done (number_some (world_at s k) n left.task left.is) (task_within (world_at s k).tasks n left.task left.is)

ends_there : (s : Setup) (k : ℕ) (h : History) (told : Told) (rest : Dialogue) → rest_at s k ≡ rest → Proper s.run.texts.ops told rest → NeverDone rest → CanGoOn s → AllDone h (count_at s k) → (MayGoOn s h k rest → ⊥) → (q : Question) × HasStopped s h k q
ends_there s k h told (Done n st) e proper never can done stuck = absurd never
ends_there s k h told (Stop q st) e proper never can done stuck = (q, record { last = (st, e); done = done })
ends_there s k h told (Ask (Call op line args) st next) e proper never can done stuck =
    let none = none_unfinished h (count_at s k) done in
    let w = can.window in
    let one = one_at_most (outs_in h (suc (count_at s k))) in absurd (stuck (omega arith))
ends_there s k h told (Ask (Use n place) st next) e proper never can done stuck =
    let t = uses_are_of_tasks s.run k n place st next e in
    absurd (stuck (done_at h (count_at s k) n done (number_some (world_at s k) n t.0 t.1) (task_within (world_at s k).tasks n t.0 t.1)))
ends_there s k h told (Ask (OpenFile name mode line) st next) e proper never can done stuck =
    absurd (stuck (there_done s k h name (latest name (writings s.run k)) done (latest_is_stored s.run k name)))
ends_there s k h told (Ask (CloseFile name bytes) st next) e proper never can done stuck = absurd (stuck tt)
ends_there s k h told (Ask Barrier st next) e proper never can done stuck = absurd (stuck done)
ends_there s k h told (Ask End st next) e proper never can done stuck = absurd proper.1
ends_there s k h told (Ask (Fault line kind) st next) e proper never can done stuck = absurd proper.1
ends_there s k h told (Ask FuelOut st next) e proper never can done stuck = absurd proper.1

-- a ready task can be taken: else it would be stranded
pub no_deadlock : NoDeadlock
no_deadlock s k h can good within frontier quiet losses idle =
    let clear = clear_now s h losses in
    let none : (m : ℕ) (t : Task) → IsReady s h m t → ⊥ = λ m t ready. clear.workers m (record {
      task = t;
      ready = ready;
      failed = λ w takes. elim (cases_lt (worker_failures h w) WORKER_FAILURES) [
        | inl few ↦ absurd (quiet losses m w t ready (record { takes = takes; free = let b = idle_load s h w good idle in let some = can.slots w t.op takes in omega arith; usable = few }))
        | inr many ↦ many
      ];
    }) in
    let done = all_done s k h within idle none (count_at s k) (omega arith) in
    let told = seq_told s.run k in
    ends_there s k h told.told (rest_at s k) refl told.proper (seq_never s.run k) can done frontier
