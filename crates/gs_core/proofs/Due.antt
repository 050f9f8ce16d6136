-- The start that is due.
use Rattle.std.proofs.Common.{◌≡◌, ℕ, ap, ◌∙◌, subst, List, Option, Some, Result, Ok, IfOk}
use Rattle.gs_types.specs.History.{History}
use Rattle.gs_types.specs.declared.memory.NoMemory.{NoMemory}
use Rattle.gs_idl.specs.Interface.{Interface, Signature}
use Rattle.gs_policy.specs.Cost.{Cost}
use Rattle.gs_queue.specs.Queue.{AreListed, IsLeastStart}
use Rattle.gs_queue.specs.declared.queue.Queue.{Queue}
use Rattle.gs_main.specs.Talking.{Talking}
use Rattle.gs_talk.specs.Seq.{Task, task_at}
use Rattle.gs_history.specs.Setup.{Setup, world_at}
use Rattle.gs_history.specs.Losses.{NoLoss}
use Rattle.gs_history.specs.Frontier.{IsFrontier}
use Rattle.gs_history.specs.Good.{IsDue}
use Rattle.gs_history.specs.Ready.{IsOpen}
use Rattle.gs_works.proofs.Listing.{ready_is_called}
use Rattle.gs_works.proofs.Choosing.{least_start_is_due}
use Rattle.gs_tables.specs.Holds.{Holds, AreOps}
use Rattle.gs_tables.specs.Starts.{Starts}
use Rattle.gs_tables.specs.declared.row.StartArg.{StartArg}
use Rattle.gs_tables.specs.declared.tables.Tables.{Tables}
use Rattle.gs_core.specs.Core.{Bears, IsMadeFor}

-- what the tables say of a start
abbrev pub Started : Type 0
Started = Result (Option (ℕ × List StartArg)) NoMemory

abbrev pub SaysStart : List Signature → Tables → ℕ → Started → Type 0
SaysStart ops t n result = (s : Setup) (k : ℕ) (h : History) (task : Task) → AreOps ops s → Holds t s k h → IsOpen s h n task → task_at (world_at s k).tasks n ≡ Some task → IfOk result (Starts s k h task)

-- the task is due, and gets what the tables say
pub due_starts : (t : Tables) (queue : Queue) (m : Talking) (i : Interface) (s : Setup) (k : ℕ) (h : History) (cost : Cost) (n w : ℕ) (o : Option (ℕ × List StartArg)) (result : Started) → cost ≡ s.cost → Bears t queue s k h → IsMadeFor m queue s → IsFrontier s h k → NoLoss s h
    → AreListed queue → IsLeastStart cost queue (Some (n, w)) → i ≡ m.interface → SaysStart i.ops t n result → result ≡ Ok o → (task : Task) × IsDue s h n w task × Starts s k h task o
due_starts t queue m i s k h cost n w o result costs bears made frontier losses all least same says is =
    let due = least_start_is_due s k h queue cost n w costs all bears.works bears.lists frontier losses least in
    let ops : AreOps i.ops s = ap (λ (x : Interface). x.ops) same ∙ made.operations in
    let called = ready_is_called s k h n due.0 frontier due.1.ready in
    (due.0, due.1, subst (λ (r : Started). IfOk r (Starts s k h due.0)) is (says s k h due.0 ops bears.tables due.1.ready.opened called))
