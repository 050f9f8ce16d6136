-- The stranded tasks of the queue and of the history.
use Rattle.std.proofs.Common.{◌≡◌, ℕ, true, sym, ap, ◌∙◌, arith, Some}
use Rattle.gs_types.specs.History.{History}
use Rattle.gs_broker.specs.declared.choice.Ready.{Ready}
use Rattle.gs_queue.specs.Queue.{listed_of, takes_of, IsStrandedIn}
use Rattle.gs_queue.specs.declared.queue.Queue.{Queue}
use Rattle.gs_history.specs.Setup.{Setup}
use Rattle.gs_history.specs.Frontier.{IsFrontier}
use Rattle.gs_history.specs.Losses.{IsStranded}
use Rattle.gs_works.specs.Works.{Works, Lists}
use Rattle.gs_works.specs.Laws.{NoneIsStranded, LeastIsStranded}
use Rattle.gs_works.proofs.Choosing.{ready_is_listed}

-- a stranded task is listed, and stranded in the queue
stranded_listed : (s : Setup) (k : ℕ) (h : History) (q : Queue) (n : ℕ) → Works q s h → Lists q s k h → IsFrontier s h k → IsStranded s h n → (r : Ready) × (listed_of q n ≡ Some r) × IsStrandedIn q r.op
stranded_listed s k h q n works lists frontier is =
    let there = ready_is_listed s k h q n is.task lists frontier is.ready in (
      there.0,
      there.1,
      λ w takes.
          let may : s.takes w is.task.op ≡ true = sym (works.takes w is.task.op) ∙ ap (takes_of q w) (sym there.2.op) ∙ takes in
          let many = is.failed w may in
          let now = works.lapses w is.task.op may in omega arith,
    )

pub none_is_stranded : NoneIsStranded
none_is_stranded s k h q works lists frontier none n is =
    let there = stranded_listed s k h q n works lists frontier is in none n there.0 there.1 there.2

pub least_is_stranded : LeastIsStranded
least_is_stranded s k h q n works lists frontier least =
    let it = lists.listed n least.task least.listed in (
      record {
        task = it.task;
        ready = it.ready;
        failed = λ w takes.
            let now = works.lapses w it.task.op takes in
            let many = least.stranded w (ap (takes_of q w) it.entry.op ∙ works.takes w it.task.op ∙ takes) in omega arith;
      },
      λ m lt is.
          let there = stranded_listed s k h q m works lists frontier is in
          let le = least.least m there.0 there.1 there.2 in absurd (omega arith),
    )
