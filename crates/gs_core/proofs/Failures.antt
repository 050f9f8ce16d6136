-- A task fails, or its start is refused.
use Rattle.std.proofs.Common.{◌≡◌, ◌≤◌, ◌==◌, ℕ, Bool, true, false, sym, ap, ◌∙◌, subst, Option, Some, None, IsSome, is_some, if◌then◌else◌}
use Rattle.gs_types.specs.History.{History, worker_in}
use Rattle.gs_broker.specs.declared.choice.Ready.{Ready}
use Rattle.gs_broker.specs.declared.outcome.Loss.{Loss as Outcome}
use Rattle.gs_broker.specs.declared.outcome.Loss.TheVariants as outcome
use Rattle.gs_queue.specs.declared.queue.Queue.{Queue}
use Rattle.gs_talk.specs.declared.question.Question.{Question}
use Rattle.gs_talk.specs.Seq.{Task, task_at}
use Rattle.gs_talk.specs.Actions.{DependsOn}
use Rattle.gs_history.specs.Setup.{Setup, world_at, count_at}
use Rattle.gs_history.specs.Notes.{NoMisfit}
use Rattle.gs_history.specs.Losses.{Loss, NoLoss, IsLoss}
use Rattle.gs_history.specs.Frontier.{IsDone, IsFrontier}
use Rattle.gs_history.specs.Ready.{IsOpen}
use Rattle.gs_history.specs.Good.{Good}
use Rattle.gs_history.proofs.Opening.{IsAfterFailure, flying_is_open}
use Rattle.gs_works.specs.Works.{IsEntry, FailsTask}
use Rattle.gs_works.specs.Losing.{IsFailureLoss}
use Rattle.gs_works.proofs.Standing.{works_after}
use Rattle.gs_works.proofs.Listing.{task_by, lists_after, frontier_same}
use Rattle.gs_tables.specs.Holds.{Holds}
use Rattle.gs_tables.specs.Starts.{AreSmall, IsEntry as IsEntryOf}
use Rattle.gs_tables.specs.declared.tables.Tables.{Tables}
use Rattle.gs_core.specs.GivenUp.{next_loss}
use Rattle.gs_core.specs.Core.{Bears, NotClosing, AtRest}
use Rattle.gs_core.specs.declared.losing.Lost.{Lost}
use Rattle.gs_core.specs.declared.stage.Stage.{Stage}
use Rattle.gs_core.specs.declared.stage.Stage.TheVariants as stage
use Rattle.gs_core.proofs.Fitting.{holds_fits}
use Rattle.gs_core.proofs.Carrying.{SameOuts, holds_same, lost_more}

-- ---- the queue

-- what the tables say of the entry of a task
abbrev pub SaysEntry : Tables → ℕ → Ready → Type 0
SaysEntry t n r = (s : Setup) (k : ℕ) (h : History) (task : Task) → Holds t s k h → AreSmall s → task_at (world_at s k).tasks n ≡ Some task → ((m : ℕ) → DependsOn s.run n m → IsDone h m) → IsEntryOf r n task

-- an open task is listed with its entry
pub open_entry : (t : Tables) (s : Setup) (k : ℕ) (h : History) (n : ℕ) (r : Ready) (task : Task) → Holds t s k h → AreSmall s → SaysEntry t n r → IsOpen s h n task → n ≤ count_at s k → IsEntry r task
open_entry t s k h n r task holds small says is le =
    let entry = says s k h task holds small (task_by s is.moment k n task is.called le) is.inputs in
    record { op = entry.op_is; bytes = entry.bytes_are }

flown_after : (a b : History) (n m : ℕ) → IsAfterFailure a b n → IsSome (worker_in b m) → IsSome (worker_in a m)
flown_after a b n m after is = of_test (n == m) (ap is_some (sym (after.workers m)) ∙ is)
  where
    of_test : (t : Bool) → IsSome (if t then None else worker_in a m) → IsSome (worker_in a m)
    of_test true some = absurd cc
    of_test false some = some

pub bears_failed : (t : Tables) (old new : Queue) (s : Setup) (k : ℕ) (a b : History) (n : ℕ) (r : Ready) → r.n ≡ n → IsAfterFailure a b n → FailsTask r old new → Good s b → IsSome (worker_in a n) → AreSmall s → SaysEntry t n r → Bears t old s k a → Bears t new s k b
bears_failed t old new s k a b n r number after fails good flies small says bears =
    let opened = flying_is_open s a n bears.tables.good flies in
    let entry = open_entry t s k a n r opened.0 bears.tables small says opened.1 (bears.flown n flies) in
    let now = subst (IsAfterFailure a b) (sym number) after in
    record {
      tables = holds_same t s k a b after.outs good bears.tables;
      works = works_after s a b old new r now fails bears.works;
      lists = lists_after s k a b old new r opened.0 now fails.listed (subst (λ (i : ℕ). IsOpen s a i opened.0) (sym number) opened.1) entry bears.lists;
      tasks = fails.ended.tasks ∙ bears.tasks;
      flown = λ m is. bears.flown m (flown_after a b n m after is);
    }

-- ---- what is given up

lost_now : (loss : Outcome) (stranded : Option ℕ) (asked : Option Question) (s : Setup) (k : ℕ) (b : History) → NoMisfit s k → NotClosing asked → IsSome asked → IsFrontier s b k → IsFailureLoss s b loss stranded → AtRest (next_loss None loss stranded) stage.Settled asked s k b
lost_now outcome.Keep None asked s k b fit closing some frontier is = (is, closing, some, frontier)
lost_now outcome.Keep (Some n) asked s k b fit closing some frontier is = (tt, (is, fit))
lost_now (outcome.Task n) stranded asked s k b fit closing some frontier is = (tt, (is, fit))

pub rest_failed : (t : Tables) (l : Option Lost) (g : Stage) (asked : Option Question) (s : Setup) (k : ℕ) (a b : History) (loss : Outcome) (stranded : Option ℕ) → g ≡ stage.Settled → Holds t s k a → SameOuts a b → ((x : Loss) → IsLoss s a x → IsLoss s b x)
    → (NoLoss s a → IsFrontier s b k → IsFailureLoss s b loss stranded) → AtRest l g asked s k a → AtRest (next_loss l loss stranded) g asked s k b
rest_failed t (Some l) g asked s k a b loss stranded is holds same kept now rest = (rest.0, lost_more l s k a b kept rest.1)
rest_failed t None stage.Open asked s k a b loss stranded is holds same kept now rest = absurd cc
rest_failed t None (stage.Looking name) asked s k a b loss stranded is holds same kept now rest = absurd cc
rest_failed t None (stage.Looked name seen) asked s k a b loss stranded is holds same kept now rest = absurd cc
rest_failed t None stage.Loading asked s k a b loss stranded is holds same kept now rest = absurd cc
rest_failed t None (stage.Loaded l) asked s k a b loss stranded is holds same kept now rest = absurd cc
rest_failed t None (stage.Saving len) asked s k a b loss stranded is holds same kept now rest = absurd cc
rest_failed t None (stage.Saved len) asked s k a b loss stranded is holds same kept now rest = absurd cc
rest_failed t None stage.Settled asked s k a b loss stranded is holds same kept now rest =
    let frontier = frontier_same s k a b same rest.3 in
    lost_now loss stranded asked s k b (holds_fits t s k a holds rest.3) rest.1 rest.2 frontier (now rest.0 frontier)
