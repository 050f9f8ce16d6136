-- The task that a question called.
use Rattle.std.proofs.Common.{◌≡◌, ◌<◌, ◌≤◌, ◌+◌, ◌⊎◌, ℕ, suc, refl, sym, ap, ◌∙◌, subst, length, arith, Some, None, IsSome, inl, inr}
use Rattle.std.proofs.lemmas.List.{length-append}
use Rattle.gs_types.specs.History.{History, worker_in}
use Rattle.gs_broker.specs.declared.choice.Ready.{Ready}
use Rattle.gs_queue.specs.Queue.{tasks_of, job_of, SameRun}
use Rattle.gs_queue.specs.declared.queue.Queue.{Queue}
use Rattle.gs_talk.specs.Seq.{Task, task_at, seq}
use Rattle.gs_talk.specs.Actions.{DependsOn}
use Rattle.gs_history.specs.Setup.{Setup, world_at, count_at}
use Rattle.gs_history.specs.Frontier.{IsDone}
use Rattle.gs_history.specs.Ready.{IsOpen}
use Rattle.gs_history.proofs.Called.{next_adds}
use Rattle.gs_tables.specs.Holds.{Holds}
use Rattle.gs_tables.specs.Starts.{AreSmall, IsEntry as IsTableEntry}
use Rattle.gs_tables.specs.declared.tables.Tables.{Tables}
use Rattle.gs_works.specs.Works.{Works, Lists, SameList, ListsOneMore}
use Rattle.gs_works.proofs.Standing.{same_works}
use Rattle.gs_works.proofs.Listing.{same_lists, none_called, ready_called_now, waiting_called, task_there, task_by}
use Rattle.gs_core.specs.Core.{Bears}

-- a question calls no task, or one
pub count_next : (s : Setup) (k : ℕ) → (count_at s (suc k) ≡ count_at s k) ⊎ (count_at s (suc k) ≡ count_at s k + 1)
unfolding seq
count_next s k = elim (next_adds s.run k) [
  | inl none ↦ inl (ap length none.same)
  | inr one ↦ inr (ap length one.more ∙ length-append (world_at s k).tasks _)
]

pub one_more : (s : Setup) (k : ℕ) → count_at s k < count_at s (suc k) → count_at s (suc k) ≡ count_at s k + 1
one_more s k lt = elim (count_next s k) [ inl same ↦ absurd (omega arith) | inr one ↦ one ]

pub no_more : (s : Setup) (k : ℕ) → count_at s (suc k) ≤ count_at s k → count_at s (suc k) ≡ count_at s k
no_more s k le = elim (count_next s k) [ inl same ↦ same | inr one ↦ absurd (omega arith) ]

pub grows : (s : Setup) (k : ℕ) → count_at s k ≤ count_at s (suc k)
grows s k = elim (count_next s k) [ inl same ↦ omega arith | inr one ↦ omega arith ]

-- no task was called
pub none_bears : (t : Tables) (queue : Queue) (s : Setup) (k : ℕ) (h : History) → Holds t s (suc k) h → Works queue s h → Lists queue s k h → tasks_of queue ≡ count_at s k → ((n : ℕ) → IsSome (worker_in h n) → n ≤ count_at s k) → count_at s (suc k) ≡ count_at s k → Bears t queue s (suc k) h
none_bears t queue s k h holds works lists tasks flown count = record {
  tables = holds;
  works = works;
  lists = none_called s k h queue queue count (λ m. refl) lists;
  tasks = tasks ∙ sym count;
  flown = λ n is. let le = flown n is in omega arith;
}

-- one task was called, and is one of the queue's now
pub record Grown (old grown : Queue) : Type 0 where
  pub tasks : tasks_of grown ≡ tasks_of old + 1
  pub listed : SameList old grown
  pub run : SameRun old grown
  pub idle : job_of grown (tasks_of old + 1) ≡ None

pub ready_bears : (t : Tables) (old grown new : Queue) (r : Ready) (s : Setup) (k : ℕ) (h : History) → Holds t s (suc k) h → AreSmall s → Works old s h → Lists old s k h → tasks_of old ≡ count_at s k → ((n : ℕ) → IsSome (worker_in h n) → n ≤ count_at s k) → count_at s k < count_at s (suc k) → Grown old grown → r.n ≡ tasks_of old + 1
    → SameRun grown new → ListsOneMore r grown new → tasks_of new ≡ tasks_of grown → ((task : Task) → task_at (world_at s (suc k)).tasks r.n ≡ Some task → IsOpen s h r.n task) → ((task : Task) → task_at (world_at s (suc k)).tasks r.n ≡ Some task → ((m : ℕ) → DependsOn s.run r.n m → IsDone h m) → IsTableEntry r r.n task) → Bears t new s (suc k) h
ready_bears t old grown new r s k h holds small works lists tasks flown lt grew number run more count says_open says_entry =
    let one = one_more s k lt in
    let there = task_there (world_at s (suc k)).tasks r.n (omega arith) (omega arith) in
    let works_grown = same_works s h old grown grew.run works in
    let opened = says_open there.0 there.1 in
    let entry = says_entry there.0 there.1 opened.inputs in
    let idle : worker_in h r.n ≡ None = sym (works_grown.jobs r.n) ∙ ap (job_of grown) number ∙ grew.idle in
    record {
      tables = holds;
      works = same_works s h grown new run works_grown;
      lists = ready_called_now s k h grown new r one (number ∙ ap (λ (i : ℕ). i + 1) tasks) (record { task = there.0; ready = record { opened = opened; idle = idle }; entry = record { op = entry.op_is; bytes = entry.bytes_are } }) more (same_lists s k h old grown grew.listed lists);
      tasks = let e = grew.tasks in omega arith;
      flown = λ n is. let le = flown n is in omega arith;
    }

pub waiting_bears : (t : Tables) (old grown : Queue) (n : ℕ) (s : Setup) (k : ℕ) (h : History) → Holds t s (suc k) h → Works old s h → Lists old s k h → tasks_of old ≡ count_at s k → ((m : ℕ) → IsSome (worker_in h m) → m ≤ count_at s k) → count_at s k < count_at s (suc k) → Grown old grown → n ≡ tasks_of old + 1
    → ((task : Task) → task_at (world_at s (suc k)).tasks n ≡ Some task → IsOpen s h n task → ⊥) → Bears t grown s (suc k) h
waiting_bears t old grown n s k h holds works lists tasks flown lt grew number says =
    let one = one_more s k lt in
    let is : n ≡ count_at s k + 1 = number ∙ ap (λ (i : ℕ). i + 1) tasks in
    record {
      tables = holds;
      works = same_works s h old grown grew.run works;
      lists = waiting_called s k h grown grown one (λ task ready. let open_n = subst (λ (i : ℕ). IsOpen s h i task) (sym is) ready.opened in says task (task_by s open_n.moment (suc k) n task open_n.called (omega arith)) open_n) (λ m. refl) (same_lists s k h old grown grew.listed lists);
      tasks = let e = grew.tasks in omega arith;
      flown = λ m fly. let le = flown m fly in omega arith;
    }
