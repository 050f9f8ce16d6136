-- Losses, from event to event.
use Rattle.std.proofs.Common.{◌≡◌, ◌≢◌, ◌<◌, ◌≤◌, ◌+◌, ℕ, sym, ap, ◌∙◌, subst, [], ◌∷◌, arith, Option, Some, None, inl, inr}
use Rattle.std.specs.Prelude.{List, min}
use Rattle.std.proofs.lemmas.Bool.Decides.{eqb_tells}
use Rattle.gs_types.specs.declared.job.Job.{Job}
use Rattle.gs_types.specs.History.{History, noted, started, refused, finished, failed, abandoned, task_failures}
use Rattle.gs_broker.specs.Counts.{most}
use Rattle.gs_broker.specs.Outcome.{IsLoss as IsTaskLoss}
use Rattle.gs_broker.specs.declared.outcome.Loss.{Loss as Outcome}
use Rattle.gs_broker.specs.declared.outcome.Loss.TheVariants.{Keep, Task}
use Rattle.gs_queue.specs.Queue.{IsNoWorker}
use Rattle.gs_queue.specs.declared.queue.Queue.{Queue}
use Rattle.gs_history.specs.Setup.{Noting, Setup}
use Rattle.gs_history.specs.Notes.{AreNoted}
use Rattle.gs_history.specs.Frontier.{IsFrontier}
use Rattle.gs_history.specs.Losses.{Loss, TaskLost, WorkersLost, FewFailures, IsClear, LooksLost, NoLoss, IsLoss}
use Rattle.gs_history.proofs.Opening.{calm, if_here, if_other, IsAfterFailure, after_failed, after_refused}
use Rattle.gs_history.proofs.Losing.{clear_now, loss_is_loss, starts_lose_nothing}
use Rattle.gs_works.specs.Works.{Works, Lists}
use Rattle.gs_works.specs.Losing.{NoLossBefore, IsFailureLoss}
use Rattle.gs_works.specs.Laws.{BeginningIsBefore, SettledLoss, FailedLoss, RefusedLoss, LossStays, NoLossIsBefore, FinishedIsBefore, AbandonedIsBefore}
use Rattle.gs_works.proofs.Stranding.{none_is_stranded, least_is_stranded}

-- ---- nothing lost before

noted_before : (s : Setup) (xs : List Noting) (h : History) → AreNoted s xs h → NoLossBefore s h
noted_before s [] [] is = tt
noted_before s [] (e ∷ h) is = absurd is
noted_before s (x ∷ xs) [] is = absurd is
noted_before s (x ∷ xs) (noted n outs ∷ h) is = tt
noted_before s (x ∷ xs) (started n w job ∷ h) is = absurd is
noted_before s (x ∷ xs) (refused n w ∷ h) is = absurd is
noted_before s (x ∷ xs) (finished n outs ∷ h) is = absurd is
noted_before s (x ∷ xs) (failed n ∷ h) is = absurd is
noted_before s (x ∷ xs) (abandoned ∷ h) is = absurd is

pub beginning_is_before : BeginningIsBefore
beginning_is_before s h some is = record {
  losses = noted_before s s.notes h is;
  tasks = λ n. let none = (calm s s.notes h is).by_task n in omega arith;
}

before_now : (s : Setup) (h : History) → NoLoss s h → NoLossBefore s h
before_now s [] none = tt
before_now s (e ∷ h) none = none.0

pub no_loss_is_before : NoLossIsBefore
no_loss_is_before s h none = record { losses = before_now s h none; tasks = (clear_now s h none).tasks }

pub finished_is_before : FinishedIsBefore
finished_is_before s h n outs none = record { losses = none; tasks = (clear_now s h none).tasks }

pub abandoned_is_before : AbandonedIsBefore
abandoned_is_before s h none = record { losses = none; tasks = (clear_now s h none).tasks }

-- ---- a look

pub none_now : (s : Setup) (h : History) → NoLossBefore s h → IsClear s h → NoLoss s h
none_now s [] before clear = clear
none_now s (e ∷ h) before clear = (before, clear)

pub lost_now : (s : Setup) (h : History) (l : Loss) → NoLossBefore s h → LooksLost s h l → IsLoss s h l
lost_now s [] l before looks = looks
lost_now s (e ∷ h) l before looks = inr (before, looks)

pub settled_loss : SettledLoss
settled_loss s k h q None before works lists frontier none =
    none_now s h before.losses (record { tasks = before.tasks; workers = none_is_stranded s k h q works lists frontier none })
settled_loss s k h q (Some n) before works lists frontier least =
    let is = least_is_stranded s k h q n works lists frontier least in
    lost_now s h (WorkersLost n) before.losses (before.tasks, is.0, is.1)

-- ---- a failure

failed_once : (a b : History) (n : ℕ) → IsAfterFailure a b n → task_failures b n ≡ task_failures a n + 1
failed_once a b n after = after.by_task n ∙ ap (λ (i : ℕ). task_failures a n + i) (if_here {A = ℕ} n 1 0)

failed_other : (a b : History) (n m : ℕ) → IsAfterFailure a b n → n ≢ m → task_failures b m ≡ task_failures a m
failed_other a b n m after ne = let x = after.by_task m ∙ ap (λ (i : ℕ). task_failures a m + i) (if_other {A = ℕ} n m 1 0 ne) in omega arith

few_still : (s : Setup) (a b : History) (n : ℕ) → IsAfterFailure a b n → FewFailures s a → task_failures a n + 1 ≢ s.tries → FewFailures s b
few_still s a b n after few ne m = elim (eqb_tells n m) [
  | inl same ↦
      let once = failed_once a b n after in
      let before = few n in subst (λ (i : ℕ). task_failures b i < s.tries) same.1 (omega arith)
  | inr other ↦ let is = failed_other a b n m after other.1 in let before = few m in omega arith
]

-- after a job has failed, or was refused
pub loss_after : (s : Setup) (k : ℕ) (a b : History) (q : Queue) (n was tries : ℕ) (loss : Outcome) (stranded : Option ℕ) → IsAfterFailure a b n → FewFailures s a → NoLossBefore s b → s.tries ≤ most → was ≡ min (task_failures a n) most → tries ≡ s.tries
    → Works q s b → Lists q s k b → IsFrontier s b k → IsTaskLoss was tries n loss → IsNoWorker q stranded → IsFailureLoss s b loss stranded
loss_after s k a b q n was tries Keep stranded after few before fits was_is tries_is works lists frontier keeps least =
    let ne : task_failures a n + 1 ≢ s.tries = λ e. keeps (let lt = few n in omega arith) in
    settled_loss s k b q stranded (record { losses = before; tasks = few_still s a b n after few ne }) works lists frontier least
loss_after s k a b q n was tries (Task m) stranded after few before fits was_is tries_is works lists frontier loses least =
    let once = failed_once a b n after in
    let reached = loses.0 in
    let lt = few n in
    subst (λ (i : ℕ). IsLoss s b (TaskLost i)) (sym loses.1) (lost_now s b (TaskLost n) before (
      omega arith,
      λ i below.
          let ne : n ≢ i = λ e. absurd (omega arith) in
          let is = failed_other a b n i after ne in
          let was_few = few i in omega arith,
    ))

pub failed_loss : FailedLoss
failed_loss s k h old new n loss stranded none works now lists frontier says least =
    loss_after s k h (failed n ∷ h) new n _ _ loss stranded (after_failed h n) (clear_now s h none).tasks none works.few_tries (works.failures n) works.tries now lists frontier says least

pub refused_loss : RefusedLoss
refused_loss s k h old new n w job loss stranded idle none works now lists frontier says least =
    loss_after s k (started n w job ∷ h) (refused n w ∷ h) new n _ _ loss stranded (after_refused h n w job idle) (clear_now s h none).tasks none works.few_tries (works.failures n) works.tries now lists frontier says least

-- ---- a loss stays

pub loss_stays : LossStays
loss_stays s (noted n outs) h l of is = absurd of
loss_stays s (started n w job) h l of is = inl is
loss_stays s (refused n w) h l of is = inl is
loss_stays s (finished n outs) h l of is = inl is
loss_stays s (failed n) h l of is = inl is
loss_stays s abandoned h l of is = inl is

-- where a start was due, nothing was lost by it
pub started_not_lost : (s : Setup) (h : History) (n w : ℕ) (job : Job) (l : Loss) → NoLoss s h → IsLoss s (started n w job ∷ h) l → ⊥
started_not_lost s h n w job l none is = loss_is_loss s (started n w job ∷ h) l (starts_lose_nothing s h n w job none) is
