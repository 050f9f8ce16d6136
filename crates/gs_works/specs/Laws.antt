-- Laws of a queue that stands for a history.
use Rattle.std.specs.Prelude.{◌≡◌, ℕ, suc, ◌+◌, ◌<◌, ◌≤◌, ◌⊎◌, ◌∷◌, Bool, true, List, Option, Some, None, IsSome}
use Rattle.gs_types.specs.declared.job.Job.{Job}
use Rattle.gs_types.specs.declared.value.Value.{Value}
use Rattle.gs_types.specs.History.{LinkEvent, History, started, refused, finished, failed, abandoned, worker_in}
use Rattle.gs_policy.specs.Cost.{Cost}
use Rattle.gs_broker.specs.Outcome.{IsLoss as IsTaskLoss}
use Rattle.gs_broker.specs.declared.broker.Broker.{Broker}
use Rattle.gs_broker.specs.declared.choice.Ready.{Ready}
use Rattle.gs_broker.specs.declared.outcome.Loss.{Loss as Outcome}
use Rattle.gs_queue.specs.Queue.{tries_of, failures_of, BeginsWith, SameRun, AreListed, StartsTask, IsLeastStart, IsNoWorker}
use Rattle.gs_queue.specs.declared.queue.Queue.{Queue}
use Rattle.gs_talk.specs.Seq.{Task, task_at}
use Rattle.gs_history.specs.Setup.{Setup, world_at, count_at}
use Rattle.gs_history.specs.Notes.{AreNoted}
use Rattle.gs_history.specs.Frontier.{IsFrontier}
use Rattle.gs_history.specs.Ready.{IsOpen, IsReady}
use Rattle.gs_history.specs.Losses.{Loss, IsStranded, NoLoss, IsLoss}
use Rattle.gs_history.specs.Good.{IsDue, IsQuiet}
use Rattle.gs_works.specs.Works.{IsBrokerOf, Works, IsEntry, IsReadyAs, Lists, SameList, ListsOneMore, ListsMore, FinishesTask, FailsTask}
use Rattle.gs_works.specs.Losing.{Before, IsWorkersLoss, IsFailureLoss, IsOfCall}

-- ---- at the beginning

-- a queue over an unused broker stands for what was recorded before
abbrev pub BeginningWorks : Type 0
BeginningWorks = (s : Setup) (h : History) (b : Broker) (q : Queue) → BeginsWith b q
    → IsBrokerOf s b → AreNoted s s.notes h → Works q s h

-- its list is right before the first question
abbrev pub BeginningLists : Type 0
BeginningLists = (s : Setup) (h : History) (b : Broker) (q : Queue) → BeginsWith b q
    → Lists q s 0 h

-- nothing was lost
abbrev pub BeginningIsBefore : Type 0
BeginningIsBefore = (s : Setup) (h : History) → 0 < s.tries → AreNoted s s.notes h
    → Before s h

-- ---- between events

-- where the jobs and counts are the same, the queue stands for the same history
abbrev pub SameWorks : Type 0
SameWorks = (s : Setup) (h : History) (old new : Queue) → SameRun old new → Works old s h
    → Works new s h

-- where the list is the same, it is right for the same questions
abbrev pub SameLists : Type 0
SameLists = (s : Setup) (k : ℕ) (h : History) (old new : Queue) → SameList old new
    → Lists old s k h → Lists new s k h

-- one more question was answered, and it called no task
abbrev pub NoneCalled : Type 0
NoneCalled = (s : Setup) (k : ℕ) (h : History) (old new : Queue)
    → count_at s (suc k) ≡ count_at s k → SameList old new → Lists old s k h → Lists new s (suc k) h

-- it called a task that is ready, and that is listed now
abbrev pub ReadyCalled : Type 0
ReadyCalled = (s : Setup) (k : ℕ) (h : History) (old new : Queue) (r : Ready)
    → count_at s (suc k) ≡ count_at s k + 1 → r.n ≡ count_at s k + 1 → IsReadyAs s h r.n r
    → ListsOneMore r old new → Lists old s k h → Lists new s (suc k) h

-- it called a task that isn't ready
abbrev pub WaitingCalled : Type 0
WaitingCalled = (s : Setup) (k : ℕ) (h : History) (old new : Queue)
    → count_at s (suc k) ≡ count_at s k + 1
    → ((t : Task) → IsReady s h (count_at s k + 1) t → ⊥)
    → SameList old new → Lists old s k h → Lists new s (suc k) h

-- ---- events

-- a start that the queue counts is a start of the history, and its list is right without the task
abbrev pub StartedWorks : Type 0
StartedWorks = (s : Setup) (h : History) (old new : Queue) (n w : ℕ) (job : Job)
    → StartsTask n w old new → Works old s h → Works new s (started n w job ∷ h)

abbrev pub StartedLists : Type 0
StartedLists = (s : Setup) (k : ℕ) (h : History) (old new : Queue) (n w : ℕ) (job : Job)
    → StartsTask n w old new → Lists old s k h → Lists new s k (started n w job ∷ h)

-- a task that the queue ends, and counts no failure of, has finished
abbrev pub FinishedWorks : Type 0
FinishedWorks = (s : Setup) (h : History) (old new : Queue) (n : ℕ) (outs : List Value)
    → FinishesTask n old new → Works old s h → Works new s (finished n outs ∷ h)

-- after task n has finished, those tasks are listed too that pass the test: each is ready now, and
-- each that is ready now passes it or was ready before
abbrev pub FinishedLists : Type 0
FinishedLists = (s : Setup) (k : ℕ) (h : History) (old new : Queue) (n : ℕ) (outs : List Value)
    (freed : ℕ → Bool) (entry : ℕ → Ready) → IsSome (worker_in h n)
    → ((m : ℕ) → freed m ≡ true → IsReadyAs s (finished n outs ∷ h) m (entry m))
    → ((m : ℕ) (t : Task) → m ≤ count_at s k → IsReady s (finished n outs ∷ h) m t
    → (freed m ≡ true) ⊎ IsReady s h m t)
    → ListsMore freed entry old new → Lists old s k h → Lists new s k (finished n outs ∷ h)

-- a failure that the queue counts is one of the history
abbrev pub FailedWorks : Type 0
FailedWorks = (s : Setup) (h : History) (old new : Queue) (r : Ready) → FailsTask r old new
    → Works old s h → Works new s (failed r.n ∷ h)

-- the task that has failed was open, and it is listed with its entry
abbrev pub FailedLists : Type 0
FailedLists = (s : Setup) (k : ℕ) (h : History) (old new : Queue) (r : Ready) (t : Task)
    → FailsTask r old new → IsOpen s h r.n t → IsEntry r t → Lists old s k h
    → Lists new s k (failed r.n ∷ h)

-- a start that the link refused is a start and a failure for the queue, and one event of the
-- history
abbrev pub RefusedWorks : Type 0
RefusedWorks = (s : Setup) (h : History) (old new : Queue) (r : Ready) (w : ℕ) (job : Job)
    → worker_in h r.n ≡ None → FailsTask r old new → Works old s (started r.n w job ∷ h)
    → Works new s (refused r.n w ∷ h)

abbrev pub RefusedLists : Type 0
RefusedLists = (s : Setup) (k : ℕ) (h : History) (old new : Queue) (r : Ready) (w : ℕ) (job : Job)
    (t : Task) → worker_in h r.n ≡ None → FailsTask r old new → IsOpen s h r.n t → IsEntry r t
    → Lists old s k (started r.n w job ∷ h) → Lists new s k (refused r.n w ∷ h)

-- ---- starts

-- at the frontier each ready task was called by the questions so far
abbrev pub ReadyIsCalled : Type 0
ReadyIsCalled = (s : Setup) (k : ℕ) (h : History) (n : ℕ) (t : Task) → IsFrontier s h k
    → IsReady s h n t → task_at (world_at s k).tasks n ≡ Some t

-- the least start is due
abbrev pub LeastStartIsDue : Type 0
LeastStartIsDue = (s : Setup) (k : ℕ) (h : History) (q : Queue) (cost : Cost) (n w : ℕ)
    → cost ≡ s.cost → AreListed q → Works q s h → Lists q s k h → IsFrontier s h k → NoLoss s h
    → IsLeastStart cost q (Some (n, w)) → (t : Task) × IsDue s h n w t

-- where there is none, nothing can start
abbrev pub NoStartIsQuiet : Type 0
NoStartIsQuiet = (s : Setup) (k : ℕ) (h : History) (q : Queue) (cost : Cost) → Works q s h
    → Lists q s k h → IsFrontier s h k → IsLeastStart cost q None → IsQuiet s h

-- ---- losses

-- where the queue has no stranded task, none is stranded; and its least one is the least
abbrev pub NoneIsStranded : Type 0
NoneIsStranded = (s : Setup) (k : ℕ) (h : History) (q : Queue) → Works q s h → Lists q s k h
    → IsFrontier s h k → IsNoWorker q None → (n : ℕ) → IsStranded s h n → ⊥

abbrev pub LeastIsStranded : Type 0
LeastIsStranded = (s : Setup) (k : ℕ) (h : History) (q : Queue) (n : ℕ) → Works q s h
    → Lists q s k h → IsFrontier s h k → IsNoWorker q (Some n)
    → IsStranded s h n × ((m : ℕ) → m < n → IsStranded s h m → ⊥)

-- at the frontier a look at the queue says what is lost, where nothing was before the last event
abbrev pub SettledLoss : Type 0
SettledLoss = (s : Setup) (k : ℕ) (h : History) (q : Queue) (stranded : Option ℕ) → Before s h
    → Works q s h → Lists q s k h → IsFrontier s h k → IsNoWorker q stranded
    → IsWorkersLoss s h stranded

-- so does a failure, where nothing was lost before it
abbrev pub FailedLoss : Type 0
FailedLoss = (s : Setup) (k : ℕ) (h : History) (old new : Queue) (n : ℕ) (loss : Outcome)
    (stranded : Option ℕ) → NoLoss s h → Works old s h → Works new s (failed n ∷ h)
    → Lists new s k (failed n ∷ h) → IsFrontier s (failed n ∷ h) k
    → IsTaskLoss (failures_of old n) (tries_of old) n loss → IsNoWorker new stranded
    → IsFailureLoss s (failed n ∷ h) loss stranded

-- and so does a refused start
abbrev pub RefusedLoss : Type 0
RefusedLoss = (s : Setup) (k : ℕ) (h : History) (old new : Queue) (n w : ℕ) (job : Job)
    (loss : Outcome) (stranded : Option ℕ) → worker_in h n ≡ None → NoLoss s h
    → Works old s (started n w job ∷ h) → Works new s (refused n w ∷ h)
    → Lists new s k (refused n w ∷ h) → IsFrontier s (refused n w ∷ h) k
    → IsTaskLoss (failures_of old n) (tries_of old) n loss → IsNoWorker new stranded
    → IsFailureLoss s (refused n w ∷ h) loss stranded

-- a loss stays the loss
abbrev pub LossStays : Type 0
LossStays = (s : Setup) (e : LinkEvent) (h : History) (l : Loss) → IsOfCall e → IsLoss s h l
    → IsLoss s (e ∷ h) l

-- ---- nothing lost before

-- where nothing was lost, nothing was lost before; nor is by an event that fails no task
abbrev pub NoLossIsBefore : Type 0
NoLossIsBefore = (s : Setup) (h : History) → NoLoss s h → Before s h

abbrev pub FinishedIsBefore : Type 0
FinishedIsBefore = (s : Setup) (h : History) (n : ℕ) (outs : List Value) → NoLoss s h
    → Before s (finished n outs ∷ h)

abbrev pub AbandonedIsBefore : Type 0
AbandonedIsBefore = (s : Setup) (h : History) → NoLoss s h → Before s (abandoned ∷ h)
