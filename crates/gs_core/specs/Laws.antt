-- Laws of a core.
use Rattle.std.specs.Prelude.{◌≡◌, ◌≢◌, ℕ, ◌<◌, List, None}
use Rattle.gs_types.specs.History.{History}
use Rattle.gs_idl.specs.Interface.{Signature}
use Rattle.gs_broker.specs.Broker.{workers_in}
use Rattle.gs_broker.specs.Listed.{entries_in}
use Rattle.gs_broker.specs.Tasks.{IsAnyJob}
use Rattle.gs_broker.specs.Text.{Says}
use Rattle.gs_broker.specs.declared.broker.Broker.{Broker}
use Rattle.gs_queue.specs.Queue.{job_of}
use Rattle.gs_history.specs.Setup.{Setup}
use Rattle.gs_history.specs.Laws.{CanGoOn}
use Rattle.gs_works.specs.Works.{IsBrokerOf}
use Rattle.gs_core.specs.Core.{Stands, IsDueStart, IsVerdict}
use Rattle.gs_core.specs.declared.machine.Core.{Core}
use Rattle.gs_core.specs.declared.stage.Stage.TheVariants as stage
use Rattle.gs_core.specs.declared.verdict.Verdict.{Verdict}
use Rattle.gs_core.specs.declared.verdict.Verdict.TheVariants as verdict

-- nothing is under way: the core has settled, no start is due, and no task is in flight
pub record IsIdle (core : Core) (s : Setup) (k : ℕ) (h : History) : Type 0 where
  pub stands : Stands core s k h
  pub settled : core.stage ≡ stage.Settled
  pub starts : IsDueStart s k h None
  pub jobs : IsAnyJob (job_of core.queue) None

-- where nothing is under way, the run has ended or something is lost, if the window has room and
-- each worker that takes an operation has a slot
abbrev pub IdleHasEnded : Type 0
IdleHasEnded = (core : Core) (s : Setup) (k : ℕ) (h : History) (v : Verdict) → CanGoOn s
    → IsIdle core s k h → IsVerdict s k h v → v ≢ verdict.More

-- a window from 1 on, and workers that a text lists, let a run go on
abbrev pub ListedGoOn : Type 0
ListedGoOn = (s : Setup) (b : Broker) (ops : List Signature) (bytes : List ℕ) → IsBrokerOf s b
    → Says ops bytes (entries_in (workers_in b)) → 0 < s.window → CanGoOn s
