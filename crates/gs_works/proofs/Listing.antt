-- The list of the queue, from question to question and from event to event.
use Rattle.std.proofs.Common.{◌≡◌, ◌≢◌, ◌<◌, ◌≤◌, ◌+◌, ℕ, zero, suc, Bool, true, false, refl, sym, ap, ◌∙◌, subst, [], ◌∷◌, length, arith, Option, Some, None, IsSome, is_some, if◌then◌else◌, inl, inr}
use Rattle.std.specs.Prelude.{List, ◌==◌, slice_get}
use Rattle.std.proofs.lemmas.Bool.{cases_lt}
use Rattle.std.proofs.lemmas.Bool.Decides.{eqb_tells}
use Rattle.gs_types.specs.declared.value.Value.{Value}
use Rattle.gs_types.specs.declared.job.Job.{Job}
use Rattle.gs_types.specs.History.{History, started, refused, finished, failed, outs_in, worker_in}
use Rattle.gs_broker.specs.declared.choice.Ready.{Ready}
use Rattle.gs_queue.specs.Queue.{listed_of}
use Rattle.gs_queue.specs.declared.queue.Queue.{Queue}
use Rattle.gs_talk.specs.Seq.{Task, seq, task_at}
use Rattle.gs_talk.specs.Actions.{DependsOn}
use Rattle.gs_talk_laws.proofs.Stays.{tasks_stay}
use Rattle.gs_talk_laws.proofs.Versions.{task_within}
use Rattle.gs_history.specs.Setup.{Setup, world_at, rest_at, count_at}
use Rattle.gs_history.specs.Frontier.{IsDone, MayGoOn, IsWithin, IsFrontier}
use Rattle.gs_history.specs.Ready.{IsOpen, IsReady}
use Rattle.gs_history.proofs.Events.{go_more, event_keeps}
use Rattle.gs_history.proofs.Opening.{open_same, open_more, not_none, if_here, if_other, IsAfterFailure, after_failed, after_refused, ready_after, ready_before, ready_again, ready_started}
use Rattle.gs_history.proofs.Dependences.{number_some}
use Rattle.gs_works.specs.Works.{IsEntry, IsReadyAs, Lists, ListsOneMore}
use Rattle.gs_works.specs.Laws.{BeginningLists, SameLists, NoneCalled, ReadyCalled, WaitingCalled, StartedLists, FinishedLists, FailedLists, RefusedLists, ReadyIsCalled}

-- ---- where a task was called

get_some : {A : Type 0} (xs : List A) (i : ℕ) → i < length xs → (x : A) × (slice_get xs i ≡ Some x)
get_some [] i lt = absurd (omega arith)
get_some (x ∷ xs) zero lt = (x, refl)
get_some (x ∷ xs) (suc i) lt = get_some xs i (omega arith)

pub task_there : (xs : List Task) (n : ℕ) → 0 < n → n ≤ length xs → (t : Task) × (task_at xs n ≡ Some t)
task_there xs zero some le = absurd (omega arith)
task_there xs (suc n) some le = get_some xs n (omega arith)

-- a task that was called, of a number that the first k questions reach, was called by them
pub task_by : (s : Setup) (j k n : ℕ) (t : Task) → task_at (world_at s j).tasks n ≡ Some t → n ≤ count_at s k → task_at (world_at s k).tasks n ≡ Some t
task_by s j k n t called le = elim (cases_lt k j) [
  | inr before ↦ tasks_stay s.run j k n t before called
  | inl after ↦
      let there = task_there (world_at s k).tasks n (number_some (world_at s j) n t called) le in
      let stays = tasks_stay s.run k j n there.0 (omega arith) there.1 in
      let same : Some there.0 ≡ Some t = sym stays ∙ called in there.1 ∙ same
]

-- a question that may be answered is followed by no frontier before it
pub within_goes : (s : Setup) (h : History) (k j : ℕ) → k < j → IsWithin s h j → MayGoOn s h k (rest_at s k)
unfolding IsWithin
within_goes s h k zero lt within = absurd (omega arith)
within_goes s h k (suc j) lt within = elim (cases_lt k j) [
  | inl below ↦ within_goes s h k j below within.0
  | inr same ↦ let is : j ≡ k = omega arith in subst (λ (i : ℕ). MayGoOn s h i (rest_at s i)) is within.1
]

pub open_called : (s : Setup) (k : ℕ) (h : History) (n : ℕ) (t : Task) → IsFrontier s h k → IsOpen s h n t → task_at (world_at s k).tasks n ≡ Some t
open_called s k h n t frontier is = elim (cases_lt k is.moment) [
  | inl after ↦ absurd (frontier (within_goes s h k is.moment after is.within))
  | inr before ↦ tasks_stay s.run is.moment k n t before is.called
]

pub ready_is_called : ReadyIsCalled
ready_is_called s k h n t frontier ready = open_called s k h n t frontier ready.opened

pub ready_called : (s : Setup) (k : ℕ) (h : History) (n : ℕ) (t : Task) → IsFrontier s h k → IsReady s h n t → n ≤ count_at s k
ready_called s k h n t frontier ready = task_within (world_at s k).tasks n t (ready_is_called s k h n t frontier ready)

-- the same outputs have the same frontier
pub frontier_same : (s : Setup) (k : ℕ) (a b : History) → ((n : ℕ) → outs_in b n ≡ outs_in a n) → IsFrontier s a k → IsFrontier s b k
frontier_same s k a b same frontier may = frontier (go_more s b a (λ n is. ap is_some (sym (same n)) ∙ is) k (rest_at s k) may)

-- ---- at the beginning, and between events

pub beginning_lists : BeginningLists
unfolding seq
beginning_lists s h b q begins = record {
  listed = λ n r e. let none = begins.listed n in absurd cc;
  full = λ n t le ready. let some = number_some (world_at s ready.opened.moment) n t ready.opened.called in absurd (omega arith);
}

pub same_lists : SameLists
same_lists s k h old new same lists = record {
  listed = λ n r e. lists.listed n r (sym (same n) ∙ e);
  full = λ n t le ready. ap is_some (same n) ∙ lists.full n t le ready;
}

pub none_called : NoneCalled
none_called s k h old new count same lists = record {
  listed = λ n r e. lists.listed n r (sym (same n) ∙ e);
  full = λ n t le ready. ap is_some (same n) ∙ lists.full n t (omega arith) ready;
}

-- what is listed once one task more is
one_listed : (s : Setup) (h : History) (old new : Queue) (r : Ready) → ListsOneMore r old new → IsReadyAs s h r.n r → ((n : ℕ) (x : Ready) → listed_of old n ≡ Some x → IsReadyAs s h n x) → (n : ℕ) (x : Ready) → listed_of new n ≡ Some x → IsReadyAs s h n x
one_listed s h old new r more is before n x e = elim (eqb_tells r.n n) [
  | inl same ↦
      let now : Some r ≡ Some x = sym (more n ∙ ap (λ (b : Bool). if b then Some r else listed_of old n) same.0) ∙ e in
      let here : r ≡ x = cc in subst (λ (y : Ready). IsReadyAs s h n y) here (subst (λ (i : ℕ). IsReadyAs s h i r) same.1 is)
  | inr other ↦ before n x (sym (more n ∙ ap (λ (b : Bool). if b then Some r else listed_of old n) other.0) ∙ e)
]

one_here : (old new : Queue) (r : Ready) (n : ℕ) → ListsOneMore r old new → r.n ≡ n → IsSome (listed_of new n)
one_here old new r n more same = ap (λ (i : ℕ). is_some (listed_of new i)) (sym same) ∙ ap is_some (more r.n ∙ if_here r.n (Some r) (listed_of old r.n))

one_there : (old new : Queue) (r : Ready) (n : ℕ) → ListsOneMore r old new → IsSome (listed_of old n) → IsSome (listed_of new n)
one_there old new r n more is = elim (eqb_tells r.n n) [
  | inl same ↦ one_here old new r n more same.1
  | inr other ↦ ap is_some (more n ∙ ap (λ (b : Bool). if b then Some r else listed_of old n) other.0) ∙ is
]

pub ready_called_now : ReadyCalled
ready_called_now s k h old new r count number is more lists = record {
  listed = one_listed s h old new r more is lists.listed;
  full = λ n t le ready. elim (cases_lt (count_at s k) n) [
    | inl after ↦ one_here old new r n more (omega arith)
    | inr before ↦ one_there old new r n more (lists.full n t before ready)
  ];
}

pub waiting_called : WaitingCalled
waiting_called s k h old new count waits same lists = record {
  listed = λ n r e. lists.listed n r (sym (same n) ∙ e);
  full = λ n t le ready. elim (cases_lt (count_at s k) n) [
    | inl after ↦ let is : n ≡ count_at s k + 1 = omega arith in absurd (waits t (subst (λ (i : ℕ). IsReady s h i t) is ready))
    | inr before ↦ ap is_some (same n) ∙ lists.full n t before ready
  ];
}

-- ---- events

-- what is ready before a start, but for the task that is started, still is
ready_still : (s : Setup) (h : History) (n w : ℕ) (job : Job) (m : ℕ) (r : Ready) → n ≢ m → IsReadyAs s h m r → IsReadyAs s (started n w job ∷ h) m r
ready_still s h n w job m r ne is = record {
  task = is.task;
  ready = record {
    opened = open_same s h (started n w job ∷ h) m is.task (λ i. refl) is.ready.opened;
    idle = if_other n m (Some w) (worker_in h m) ne ∙ is.ready.idle;
  };
  entry = is.entry;
}

pub started_lists : StartedLists
started_lists s k h old new n w job starts lists = record {
  listed = λ m r e. elim (eqb_tells n m) [
    | inl same ↦ let gone : None ≡ Some r = sym (starts.listed m ∙ ap (λ (b : Bool). if b then None else listed_of old m) same.0) ∙ e in absurd cc
    | inr other ↦ ready_still s h n w job m r other.1 (lists.listed m r (sym (starts.listed m ∙ ap (λ (b : Bool). if b then None else listed_of old m) other.0) ∙ e))
  ];
  full = λ m t le ready.
      let before = ready_started s h n w job m t ready in
      ap is_some (starts.listed m ∙ if_other n m None (listed_of old m) before.1) ∙ lists.full m t le before.0;
}

-- what is ready while a task is in flight still is when that has finished
ready_finished : (s : Setup) (h : History) (n : ℕ) (outs : List Value) (m : ℕ) (r : Ready) → IsSome (worker_in h n) → IsReadyAs s h m r → IsReadyAs s (finished n outs ∷ h) m r
ready_finished s h n outs m r flies is =
    let ne : n ≢ m = λ e. not_none (worker_in h n) flies (ap (worker_in h) e ∙ is.ready.idle) in
    record {
      task = is.task;
      ready = record {
        opened = open_more s h (finished n outs ∷ h) m is.task (event_keeps (finished n outs) h) (if_other n m (Some outs) (outs_in h m) ne ∙ is.ready.opened.unfinished) is.ready.opened;
        idle = if_other n m None (worker_in h m) ne ∙ is.ready.idle;
      };
      entry = is.entry;
    }

pub finished_lists : FinishedLists
finished_lists s k h old new n outs freed entry flies frees each more lists = record {
  listed = λ m r e. of_test m r (freed m) refl (sym (more m) ∙ e);
  full = λ m t le ready. elim (each m t le ready) [
    | inl now ↦ ap is_some (more m ∙ ap (λ (b : Bool). if b then Some (entry m) else listed_of old m) now)
    | inr before ↦ ap is_some (more m) ∙ either (freed m) (entry m) (listed_of old m) (lists.full m t le before)
  ];
}
  where
    of_test : (m : ℕ) (r : Ready) (b : Bool) → freed m ≡ b → (if b then Some (entry m) else listed_of old m) ≡ Some r → IsReadyAs s (finished n outs ∷ h) m r
    of_test m r true is e = let same : entry m ≡ r = cc in subst (λ (y : Ready). IsReadyAs s (finished n outs ∷ h) m y) same (frees m is)
    of_test m r false is e = ready_finished s h n outs m r flies (lists.listed m r e)

    either : (b : Bool) (x : Ready) (o : Option Ready) → IsSome o → IsSome (if b then Some x else o)
    either true x o is = refl
    either false x o is = is

-- what is ready after task n has finished was ready before, if its inputs were there
pub ready_unfreed : (s : Setup) (k : ℕ) (h : History) (n : ℕ) (outs : List Value) (m : ℕ) (t : Task) → IsWithin s h k → m ≤ count_at s k → ((d : ℕ) → DependsOn s.run m d → IsDone h d) → IsReady s (finished n outs ∷ h) m t → IsReady s h m t
ready_unfreed s k h n outs m t within le inputs ready =
    let ne : n ≢ m = λ e. let here = ap (λ (i : ℕ). if i == m then Some outs else outs_in h m) (sym e) ∙ ready.opened.unfinished in not_none (if m == m then Some outs else outs_in h m) (ap is_some (if_here m (Some outs) (outs_in h m))) here in
    record {
      opened = record {
        moment = k;
        within = within;
        called = task_by s ready.opened.moment k m t ready.opened.called le;
        unfinished = sym (if_other n m (Some outs) (outs_in h m) ne) ∙ ready.opened.unfinished;
        inputs = inputs;
      };
      idle = sym (if_other n m None (worker_in h m) ne) ∙ ready.idle;
    }

-- or if it doesn't depend on task n
pub ready_apart : (s : Setup) (k : ℕ) (h : History) (n : ℕ) (outs : List Value) (m : ℕ) (t : Task) → IsWithin s h k → m ≤ count_at s k → (DependsOn s.run m n → ⊥) → IsReady s (finished n outs ∷ h) m t → IsReady s h m t
ready_apart s k h n outs m t within le apart ready =
    ready_unfreed s k h n outs m t within le
    (λ d depends.
    let ne : n ≢ d = λ e. apart (subst (DependsOn s.run m) (sym e) depends) in
    ap is_some (sym (if_other n d (Some outs) (outs_in h d) ne)) ∙ ready.opened.inputs d depends)
    ready

-- after a job has failed, or was refused
pub lists_after : (s : Setup) (k : ℕ) (a b : History) (old new : Queue) (r : Ready) (t : Task) → IsAfterFailure a b r.n → ListsOneMore r old new → IsOpen s a r.n t → IsEntry r t → Lists old s k a → Lists new s k b
lists_after s k a b old new r t after more is entry lists = record {
  listed = one_listed s b old new r more (record { task = t; ready = ready_again s a b r.n t after is; entry = entry })
      (λ n x e. let was = lists.listed n x e in record { task = was.task; ready = ready_after s a b r.n n was.task after was.ready; entry = was.entry });
  full = λ n u le ready. elim (eqb_tells r.n n) [
    | inl same ↦ one_here old new r n more same.1
    | inr other ↦ one_there old new r n more (lists.full n u le (ready_before s a b r.n n u after other.1 ready))
  ];
}

pub failed_lists : FailedLists
failed_lists s k h old new r t fails is entry lists = lists_after s k h (failed r.n ∷ h) old new r t (after_failed h r.n) fails.listed is entry lists

pub refused_lists : RefusedLists
refused_lists s k h old new r w job t idle fails is entry lists =
    let a : History = started r.n w job ∷ h in
    lists_after s k a (refused r.n w ∷ h) old new r t (after_refused h r.n w job idle) fails.listed (open_same s h a r.n t (λ i. refl) is) entry lists
