-- A task finishes.
use Rattle.std.proofs.Common.{◌≡◌, ◌<◌, ◌≤◌, ◌==◌, ℕ, zero, suc, Bool, true, false, refl, sym, ap, ◌∙◌, subst, List, [], ◌∷◌, length, arith, Option, Some, None, IsSome, is_some, if◌then◌else◌, inl, inr, ◌⊎◌}
use Rattle.std.specs.List.{slice_get}
use Rattle.gs_types.specs.declared.value.Value.{Value}
use Rattle.gs_types.specs.History.{History, finished, worker_in}
use Rattle.gs_broker.specs.declared.choice.Ready.{Ready}
use Rattle.gs_queue.specs.Queue.{tasks_of, listed_of}
use Rattle.gs_queue.specs.declared.queue.Queue.{Queue}
use Rattle.gs_talk.specs.declared.question.Question.{Question}
use Rattle.gs_talk.specs.Seq.{Task, task_at}
use Rattle.gs_history.specs.Setup.{Setup, world_at, count_at}
use Rattle.gs_history.specs.Frontier.{IsWithin}
use Rattle.gs_history.specs.Ready.{IsReady}
use Rattle.gs_history.proofs.Dependences.{number_some}
use Rattle.gs_history.proofs.Ending.{one_task}
use Rattle.gs_works.specs.Works.{Works, IsReadyAs, Lists, SameList, FinishesTask}
use Rattle.gs_works.proofs.Standing.{same_works, finished_works}
use Rattle.gs_works.proofs.Listing.{task_by, finished_lists, ready_apart}
use Rattle.gs_works.proofs.Losing.{finished_is_before}
use Rattle.gs_tables.specs.Holds.{Holds}
use Rattle.gs_tables.specs.Starts.{AreSmall}
use Rattle.gs_tables.specs.declared.tables.Tables.{Tables}
use Rattle.gs_core.specs.Stages.{reopened}
use Rattle.gs_core.specs.Freed.{IsFreed, ListsFreed, ListsFollowers}
use Rattle.gs_core.specs.Core.{Bears, IsStill, AtRest}
use Rattle.gs_core.specs.declared.losing.Lost.{Lost}
use Rattle.gs_core.specs.declared.stage.Stage.{Stage}
use Rattle.gs_core.specs.declared.stage.Stage.TheVariants as stage
use Rattle.gs_core.proofs.Carrying.{lost_after}

-- ---- what was freed

abbrev is_freed : (t : Tables) (mid new : Queue) (m : ℕ) → (listed_of new m ≡ listed_of mid m) ⊎ IsFreed t mid new m → Bool
is_freed t mid new m (inl same) = false
is_freed t mid new m (inr freed) = true

abbrev entry_by : (t : Tables) (mid new : Queue) (m : ℕ) → (listed_of new m ≡ listed_of mid m) ⊎ IsFreed t mid new m → Ready
entry_by t mid new m (inl same) = record { n = 0; op = 0; bytes = 0 }
entry_by t mid new m (inr freed) = freed.entry

listed_by : (t : Tables) (old mid new : Queue) (m : ℕ) (d : (listed_of new m ≡ listed_of mid m) ⊎ IsFreed t mid new m) → listed_of mid m ≡ listed_of old m → listed_of new m ≡ (if is_freed t mid new m d then Some (entry_by t mid new m d) else listed_of old m)
listed_by t old mid new m (inl same) before = same ∙ before
listed_by t old mid new m (inr freed) before = freed.listed

get_some : (xs : List Task) (i : ℕ) → i < length xs → (x : Task) × (slice_get xs i ≡ Some x)
get_some [] i lt = absurd (omega arith)
get_some (x ∷ xs) zero lt = (x, refl)
get_some (x ∷ xs) (suc i) lt = get_some xs i (omega arith)

task_there : (xs : List Task) (n : ℕ) → 0 < n → n ≤ length xs → (t : Task) × (task_at xs n ≡ Some t)
task_there xs zero some le = absurd (omega arith)
task_there xs (suc n) some le = get_some xs n (omega arith)

freed_ready : (t : Tables) (mid new : Queue) (s : Setup) (k : ℕ) (b : History) (m : ℕ) (d : (listed_of new m ≡ listed_of mid m) ⊎ IsFreed t mid new m) → Holds t s k b → AreSmall s → Works mid s b → tasks_of mid ≡ count_at s k → is_freed t mid new m d ≡ true → IsReadyAs s b m (entry_by t mid new m d)
freed_ready t mid new s k b m (inl same) holds small works tasks is = absurd cc
freed_ready t mid new s k b m (inr freed) holds small works tasks is =
    let there = task_there (world_at s k).tasks m freed.numbered.0 (let le = freed.numbered.1 in omega arith) in
    let says = freed.says s k b there.0 holds small there.1 in
    record {
      task = there.0;
      ready = record { opened = says.0; idle = sym (works.jobs m) ∙ freed.idle };
      entry = record { op = says.1.op_is; bytes = says.1.bytes_are };
    }

-- ---- what was ready before

ready_task : (s : Setup) (a b : History) (m : ℕ) (t : Task) (r : Ready) → IsReady s b m t → IsReadyAs s a m r → IsReady s a m t
ready_task s a b m t r ready is =
    let same = one_task s.run m is.task t (record { moment = is.ready.opened.moment; is = is.ready.opened.called }) (record { moment = ready.opened.moment; is = ready.opened.called }) in
    subst (IsReady s a m) same is.ready

-- what isn't listed then doesn't depend on the task
unlisted_apart : (t : Tables) (mid new : Queue) (s : Setup) (k : ℕ) (h : History) (n : ℕ) (values : List Value) (m : ℕ) (task : Task) → Holds t s k (finished n values ∷ h) → Works mid s (finished n values ∷ h) → tasks_of mid ≡ count_at s k → ListsFollowers t n mid new → IsWithin s h k → m ≤ count_at s k → listed_of new m ≡ None
    → IsReady s (finished n values ∷ h) m task → IsReady s h m task
unlisted_apart t mid new s k h n values m task holds works tasks full within le none ready =
    let at = task_by s ready.opened.moment k m task ready.opened.called le in
    let pos = number_some (world_at s k) m task at in
    ready_apart s k h n values m task within le
    (λ depends.
    let is = full s k (finished n values ∷ h) m task holds at depends ready.opened (pos, omega arith) (works.jobs m ∙ ready.idle) in
    absurd (let e = ap is_some none in cc))
    ready

of_listed : (t : Tables) (old mid new : Queue) (s : Setup) (k : ℕ) (h : History) (n : ℕ) (values : List Value) (m : ℕ) (task : Task) (o : Option Ready) → listed_of old m ≡ o → listed_of new m ≡ listed_of old m → Lists old s k h → Holds t s k (finished n values ∷ h) → Works mid s (finished n values ∷ h) → tasks_of mid ≡ count_at s k → ListsFollowers t n mid new
    → IsWithin s h k → m ≤ count_at s k → IsReady s (finished n values ∷ h) m task → IsReady s h m task
of_listed t old mid new s k h n values m task None at same lists holds works tasks full within le ready = unlisted_apart t mid new s k h n values m task holds works tasks full within le (same ∙ at) ready
of_listed t old mid new s k h n values m task (Some r) at same lists holds works tasks full within le ready = ready_task s h (finished n values ∷ h) m task r ready (lists.listed m r at)

freed_or_ready : (t : Tables) (old mid new : Queue) (s : Setup) (k : ℕ) (h : History) (n : ℕ) (values : List Value) (m : ℕ) (task : Task) (d : (listed_of new m ≡ listed_of mid m) ⊎ IsFreed t mid new m) → listed_of mid m ≡ listed_of old m → Lists old s k h → Holds t s k (finished n values ∷ h) → Works mid s (finished n values ∷ h) → tasks_of mid ≡ count_at s k
    → ListsFollowers t n mid new → IsWithin s h k → m ≤ count_at s k → IsReady s (finished n values ∷ h) m task → (is_freed t mid new m d ≡ true) ⊎ IsReady s h m task
freed_or_ready t old mid new s k h n values m task (inr freed) before lists holds works tasks full within le ready = inl refl
freed_or_ready t old mid new s k h n values m task (inl same) before lists holds works tasks full within le ready = inr (of_listed t old mid new s k h n values m task (listed_of old m) refl (same ∙ before) lists holds works tasks full within le ready)

-- ---- the whole

lists_finished : (t : Tables) (old mid new : Queue) (s : Setup) (k : ℕ) (h : History) (n : ℕ) (values : List Value) → SameList old mid → ListsFreed t mid new → ListsFollowers t n mid new → Holds t s k (finished n values ∷ h) → Works mid s (finished n values ∷ h) → AreSmall s → tasks_of mid ≡ count_at s k → IsWithin s h k → IsSome (worker_in h n) → Lists old s k h
    → Lists new s k (finished n values ∷ h)
lists_finished t old mid new s k h n values same more full holds works small tasks within flies lists =
    finished_lists s k h old new n values (λ m. is_freed t mid new m (more.listed m)) (λ m. entry_by t mid new m (more.listed m)) flies
    (λ m is. freed_ready t mid new s k (finished n values ∷ h) m (more.listed m) holds small works tasks is)
    (λ m task le ready. freed_or_ready t old mid new s k h n values m task (more.listed m) (same m) lists holds works tasks full within le ready)
    (λ m. listed_by t old mid new m (more.listed m) (same m)) lists

flown_finished : (h : History) (n : ℕ) (values : List Value) (m : ℕ) → IsSome (worker_in (finished n values ∷ h) m) → IsSome (worker_in h m)
flown_finished h n values m is = of_test (n == m) is
  where
    of_test : (b : Bool) → IsSome (if b then None else worker_in h m) → IsSome (worker_in h m)
    of_test true some = absurd cc
    of_test false some = some

pub bears_finished : (before t : Tables) (old mid new : Queue) (s : Setup) (k : ℕ) (h : History) (n : ℕ) (values : List Value) → FinishesTask n old mid → SameList old mid → ListsFreed t mid new → ListsFollowers t n mid new → AreSmall s → IsSome (worker_in h n) → Holds t s k (finished n values ∷ h) → Bears before old s k h → Bears t new s k (finished n values ∷ h)
bears_finished before t old mid new s k h n values finishes same more full small flies holds bears =
    let works = finished_works s h old mid n values finishes bears.works in
    let tasks = finishes.ended.tasks ∙ bears.tasks in
    record {
      tables = holds;
      works = same_works s (finished n values ∷ h) mid new more.run works;
      lists = lists_finished t old mid new s k h n values same more full holds works small tasks bears.tables.within flies bears.lists;
      tasks = more.tasks ∙ tasks;
      flown = λ m is. bears.flown m (flown_finished h n values m is);
    }

still_open : (g to : Stage) → g ≡ stage.Settled → to ≡ reopened g → IsStill to
still_open g to is e = subst IsStill (sym (e ∙ ap reopened is)) tt

pub rest_finished : (l : Option Lost) (g to : Stage) (asked : Option Question) (s : Setup) (k : ℕ) (h : History) (n : ℕ) (values : List Value) → g ≡ stage.Settled → to ≡ reopened g → AtRest l g asked s k h → AtRest l to asked s k (finished n values ∷ h)
rest_finished (Some l) g to asked s k h n values is e rest = (still_open g to is e, lost_after l s k (finished n values) h tt rest.1)
rest_finished None stage.Open to asked s k h n values is e rest = absurd cc
rest_finished None (stage.Looking name) to asked s k h n values is e rest = absurd cc
rest_finished None (stage.Looked name seen) to asked s k h n values is e rest = absurd cc
rest_finished None stage.Loading to asked s k h n values is e rest = absurd cc
rest_finished None (stage.Loaded l) to asked s k h n values is e rest = absurd cc
rest_finished None (stage.Saving len) to asked s k h n values is e rest = absurd cc
rest_finished None (stage.Saved len) to asked s k h n values is e rest = absurd cc
rest_finished None stage.Settled to asked s k h n values is e rest = subst (λ (g : Stage). AtRest None g asked s k (finished n values ∷ h)) (sym e) (finished_is_before s h n values rest.0, rest.1)
