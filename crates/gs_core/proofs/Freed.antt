-- Tasks are listed since they may start.
use Rattle.std.proofs.Common.{◌≡◌, ◌<◌, ◌≤◌, ◌==◌, ◌+◌, ℕ, zero, suc, Bool, refl, sym, ap, ◌∙◌, subst, List, [], ◌∷◌, arith, Some, None, IsSome, is_some, if◌then◌else◌, inl, inr}
use Rattle.std.specs.List.{slice_get}
use Rattle.std.proofs.lemmas.Bool.{cases_lt}
use Rattle.std.proofs.lemmas.Bool.Decides.{eqb_tells}
use Rattle.gs_types.specs.History.{History}
use Rattle.gs_broker.specs.declared.choice.Ready.{Ready}
use Rattle.gs_queue.specs.Queue.{tasks_of, listed_of, job_of, SameRun, IsTask}
use Rattle.gs_queue.specs.declared.queue.Queue.{Queue}
use Rattle.gs_talk.specs.Seq.{Task, task_at}
use Rattle.gs_history.specs.Setup.{Setup, world_at}
use Rattle.gs_history.specs.Ready.{IsOpen}
use Rattle.gs_history.proofs.Opening.{if_here}
use Rattle.gs_works.specs.Works.{ListsOneMore}
use Rattle.gs_tables.specs.Holds.{Holds}
use Rattle.gs_tables.specs.Starts.{AreSmall, IsEntry}
use Rattle.gs_tables.specs.declared.tables.Tables.{Tables}
use Rattle.gs_core.specs.Freed.{IsFreed, ListsFreed, IsListedIfOpen}

-- one task is listed
pub one_freed : (t : Tables) (old new : Queue) (m : ℕ) (r : Ready) → r.n ≡ m → IsTask m old → job_of old m ≡ None → tasks_of new ≡ tasks_of old → SameRun old new → ListsOneMore r old new
    → ((s : Setup) (k : ℕ) (h : History) (task : Task) → Holds t s k h → AreSmall s → task_at (world_at s k).tasks m ≡ Some task → IsOpen s h m task × IsEntry r m task) → ListsFreed t old new
one_freed t old new m r number numbered idle tasks run more says =
    let here : IsFreed t old new m = record {
      numbered = numbered;
      idle = idle;
      entry = r;
      listed = more m ∙ ap (λ (i : ℕ). if i == m then Some r else listed_of old m) number ∙ if_here m (Some r) (listed_of old m);
      says = says;
    } in
    record {
      tasks = tasks;
      run = run;
      listed = λ x. elim (eqb_tells r.n x) [
        | inl same ↦ inr (subst (IsFreed t old new) (sym number ∙ same.1) here)
        | inr other ↦ inl (more x ∙ ap (λ (b : Bool). if b then Some r else listed_of old x) other.0)
      ];
    }

run_then : (a b c : Queue) → SameRun a b → SameRun b c → SameRun a c
run_then a b c x y = record {
  workers = record {
    listed = y.workers.listed ∙ x.workers.listed;
    slots = λ w. y.workers.slots w ∙ x.workers.slots w;
    takes = λ w op. y.workers.takes w op ∙ x.workers.takes w op;
    tries = y.workers.tries ∙ x.workers.tries;
  };
  jobs = λ n. y.jobs n ∙ x.jobs n;
  busy = λ w. y.busy w ∙ x.busy w;
  failures = λ n. y.failures n ∙ x.failures n;
  lapses = λ w. y.lapses w ∙ x.lapses w;
}

pub numbered_then : (t : Tables) (a b : Queue) (m : ℕ) → ListsFreed t a b → IsTask m b → IsTask m a
numbered_then t a b m x is = (is.0, subst (λ (i : ℕ). m ≤ i) x.tasks is.1)

freed_then : (t : Tables) (a b c : Queue) (m : ℕ) → ListsFreed t a b → IsFreed t b c m → IsFreed t a c m
freed_then t a b c m x is = record {
  numbered = numbered_then t a b m x is.numbered;
  idle = sym (x.run.jobs m) ∙ is.idle;
  entry = is.entry;
  listed = is.listed;
  says = is.says;
}

freed_stays : (t : Tables) (a b c : Queue) (m : ℕ) → listed_of c m ≡ listed_of b m → IsFreed t a b m → IsFreed t a c m
freed_stays t a b c m same is = record {
  numbered = is.numbered;
  idle = is.idle;
  entry = is.entry;
  listed = same ∙ is.listed;
  says = is.says;
}

pub lists_then : (t : Tables) (a b c : Queue) → ListsFreed t a b → ListsFreed t b c → ListsFreed t a c
lists_then t a b c x y = record {
  tasks = y.tasks ∙ x.tasks;
  run = run_then a b c x.run y.run;
  listed = λ m. elim (y.listed m) [
    | inr now ↦ inr (freed_then t a b c m x now)
    | inl same ↦ elim (x.listed m) [ inl before ↦ inl (same ∙ before) | inr was ↦ inr (freed_stays t a b c m same was) ]
  ];
}

pub lists_none : (t : Tables) (a : Queue) → ListsFreed t a a
lists_none t a = record {
  tasks = refl;
  run = record {
    workers = record { listed = refl; slots = λ w. refl; takes = λ w op. refl; tries = refl };
    jobs = λ n. refl;
    busy = λ w. refl;
    failures = λ n. refl;
    lapses = λ w. refl;
  };
  listed = λ m. inl refl;
}

-- what is listed stays so
pub listed_stays : (t : Tables) (a b : Queue) (m : ℕ) → ListsFreed t a b → IsSome (listed_of a m) → IsSome (listed_of b m)
listed_stays t a b m x is = elim (x.listed m) [ inl same ↦ ap is_some same ∙ is | inr now ↦ ap is_some now.listed ]

pub listed_before : (t : Tables) (a b c : Queue) (m : ℕ) → ListsFreed t b c → IsListedIfOpen t a b m → IsListedIfOpen t a c m
listed_before t a b c m y x s k h task holds at opened numbered idle = listed_stays t b c m y (x s k h task holds at opened numbered idle)

pub listed_now : (t : Tables) (a b c : Queue) (m : ℕ) → ListsFreed t a b → IsListedIfOpen t b c m → IsListedIfOpen t a c m
listed_now t a b c m x y s k h task holds at opened numbered idle = y s k h task holds at opened (numbered.0, subst (λ (i : ℕ). m ≤ i) (sym x.tasks) numbered.1) (x.run.jobs m ∙ idle)

-- one task more was looked at
pub listed_more : (t : Tables) (a b c : Queue) (i : ℕ) → ListsFreed t a b → ListsFreed t b c → ((m : ℕ) → 0 < m → m ≤ i → IsListedIfOpen t a b m) → IsListedIfOpen t b c (i + 1) → (m : ℕ) → 0 < m → m ≤ i + 1 → IsListedIfOpen t a c m
listed_more t a b c i x y before now m pos le = elim (cases_lt i m) [
  | inl last ↦ let same : i + 1 ≡ m = omega arith in subst (IsListedIfOpen t a c) same (listed_now t a b c (i + 1) x now)
  | inr earlier ↦ listed_before t a b c m y (before m pos earlier)
]

-- ---- followers

-- what stands in a list stands before its end
pub before_end : (xs : List ℕ) (i j m : ℕ) → slice_get xs i ≡ None → slice_get xs j ≡ Some m → j < i
before_end [] i j m none some = absurd cc
before_end (x ∷ xs) zero j m none some = absurd cc
before_end (x ∷ xs) (suc i) zero m none some = omega arith
before_end (x ∷ xs) (suc i) (suc j) m none some = let lt = before_end xs i j m none some in omega arith
