-- A task starts.
use Rattle.std.proofs.Common.{◌≡◌, ◌≤◌, ℕ, Bool, refl, sym, ap, ◌∙◌, subst, ◌∷◌, arith, Option, Some, None, IsSome, is_some, if◌then◌else◌, inl, inr}
use Rattle.std.proofs.lemmas.Bool.Decides.{eqb_tells}
use Rattle.gs_types.specs.declared.job.Job.{Job}
use Rattle.gs_types.specs.History.{History, started, worker_in}
use Rattle.gs_queue.specs.Queue.{tasks_of, StartsTask}
use Rattle.gs_queue.specs.declared.queue.Queue.{Queue}
use Rattle.gs_talk.specs.declared.question.Question.{Question}
use Rattle.gs_history.specs.Setup.{Setup, count_at}
use Rattle.gs_history.specs.Good.{IsStart}
use Rattle.gs_history.proofs.Losing.{starts_lose_nothing}
use Rattle.gs_works.proofs.Standing.{started_works}
use Rattle.gs_works.proofs.Listing.{started_lists, frontier_same}
use Rattle.gs_tables.specs.declared.tables.Tables.{Tables}
use Rattle.gs_core.specs.Core.{Bears, AtRest}
use Rattle.gs_core.specs.declared.losing.Lost.{Lost}
use Rattle.gs_core.specs.declared.stage.Stage.{Stage}
use Rattle.gs_core.specs.declared.stage.Stage.TheVariants as stage
use Rattle.gs_core.proofs.Carrying.{holds_same, lost_after}

pub rest_started : (l : Option Lost) (g : Stage) (asked : Option Question) (s : Setup) (k : ℕ) (h : History) (n w : ℕ) (j : Job) → g ≡ stage.Settled → AtRest l g asked s k h → AtRest l g asked s k (started n w j ∷ h)
rest_started (Some l) g asked s k h n w j is rest = (rest.0, lost_after l s k (started n w j) h tt rest.1)
rest_started None stage.Open asked s k h n w j is rest = absurd cc
rest_started None (stage.Looking name) asked s k h n w j is rest = absurd cc
rest_started None (stage.Looked name seen) asked s k h n w j is rest = absurd cc
rest_started None stage.Loading asked s k h n w j is rest = absurd cc
rest_started None (stage.Loaded l) asked s k h n w j is rest = absurd cc
rest_started None (stage.Saving len) asked s k h n w j is rest = absurd cc
rest_started None (stage.Saved len) asked s k h n w j is rest = absurd cc
rest_started None stage.Settled asked s k h n w j is rest = (
  starts_lose_nothing s h n w j rest.0,
  rest.1,
  rest.2,
  frontier_same s k h (started n w j ∷ h) (λ m. refl) rest.3,
)

flown_started : (s : Setup) (k : ℕ) (h : History) (n w : ℕ) (j : Job) → n ≤ count_at s k → ((m : ℕ) → IsSome (worker_in h m) → m ≤ count_at s k) → (m : ℕ) → IsSome (worker_in (started n w j ∷ h) m) → m ≤ count_at s k
flown_started s k h n w j le flown m is = elim (eqb_tells n m) [
  | inl same ↦ subst (λ (i : ℕ). i ≤ count_at s k) same.1 le
  | inr other ↦ flown m (sym (ap (λ (b : Bool). is_some (if b then Some w else worker_in h m)) other.0) ∙ is)
]

pub bears_started : (t : Tables) (old new : Queue) (s : Setup) (k : ℕ) (h : History) (n w : ℕ) (j : Job) → StartsTask n w old new → n ≤ tasks_of old → IsStart s h n w j → Bears t old s k h → Bears t new s k (started n w j ∷ h)
bears_started t old new s k h n w j starts le fits bears = record {
  tables = holds_same t s k h (started n w j ∷ h) (λ m. refl) (bears.tables.good, fits) bears.tables;
  works = started_works s h old new n w j starts bears.works;
  lists = started_lists s k h old new n w j starts bears.lists;
  tasks = starts.tasks ∙ bears.tasks;
  flown = flown_started s k h n w j (let e = bears.tasks in omega arith) bears.flown;
}
