-- The queue's jobs and counts, from event to event.
use Rattle.std.proofs.Common.{◌≡◌, ◌+◌, ◌-◌, ℕ, Bool, true, false, refl, sym, ap, ◌∙◌, ◌∷◌, arith, Option, Some, None, if◌then◌else◌}
use Rattle.std.specs.Prelude.{◌==◌, min}
use Rattle.gs_types.specs.History.{History, started, refused, failed, worker_in, busy, task_failures, at_worker}
use Rattle.gs_broker.specs.Counts.{most, is_on}
use Rattle.gs_broker.specs.declared.choice.Ready.{Ready}
use Rattle.gs_queue.specs.Queue.{job_of, failures_of}
use Rattle.gs_queue.specs.declared.queue.Queue.{Queue}
use Rattle.gs_history.specs.Setup.{Setup}
use Rattle.gs_history.proofs.Opening.{calm, IsAfterFailure, after_failed, after_refused}
use Rattle.gs_works.specs.Works.{Works, FailsTask}
use Rattle.gs_works.specs.Laws.{BeginningWorks, SameWorks, StartedWorks, FinishedWorks, FailedWorks, RefusedWorks}

pub beginning_works : BeginningWorks
beginning_works s h b q begins of noted =
    let quiet = calm s s.notes h noted in
    record {
      slots = λ w. begins.slots w ∙ of.slots w;
      takes = λ w op. begins.takes w op ∙ of.takes w op;
      tries = begins.tries ∙ of.tries;
      some_tries = of.some_tries;
      few_tries = of.few_tries;
      jobs = λ n. begins.jobs n ∙ sym (quiet.workers n);
      loads = λ w. begins.busy w ∙ of.unused.loads w ∙ sym (quiet.loads w);
      failures = λ n. let a = begins.failures n ∙ of.unused.failures n in let c = quiet.by_task n in omega arith;
      lapses = λ w op takes. let a = begins.lapses w ∙ of.unused.lapses w in let c = quiet.by_worker w in omega arith;
    }

pub same_works : SameWorks
same_works s h old new run works = record {
  slots = λ w. run.workers.slots w ∙ works.slots w;
  takes = λ w op. run.workers.takes w op ∙ works.takes w op;
  tries = run.workers.tries ∙ works.tries;
  some_tries = works.some_tries;
  few_tries = works.few_tries;
  jobs = λ n. run.jobs n ∙ works.jobs n;
  loads = λ w. run.busy w ∙ works.loads w;
  failures = λ n. run.failures n ∙ works.failures n;
  lapses = λ w op takes. run.lapses w ∙ works.lapses w op takes;
}

-- the worker of a job, as the queue and as the history count it
on_worker : (o : Option ℕ) (u : ℕ) → is_on o u ≡ at_worker o u
on_worker None u = refl
on_worker (Some w) u = refl

pub started_works : StartedWorks
started_works s h old new n w job starts works = record {
  slots = λ u. starts.workers.slots u ∙ works.slots u;
  takes = λ u op. starts.workers.takes u op ∙ works.takes u op;
  tries = starts.workers.tries ∙ works.tries;
  some_tries = works.some_tries;
  few_tries = works.few_tries;
  jobs = λ m. starts.jobs m ∙ ap (λ (o : Option ℕ). if n == m then Some w else o) (works.jobs m);
  loads = λ u. starts.busy u ∙ ap (λ (i : ℕ). i + is_on (Some w) u) (works.loads u) ∙ ap (λ (i : ℕ). busy h u + i) (on_worker (Some w) u);
  failures = λ m. starts.failures m ∙ works.failures m;
  lapses = λ u op takes. starts.lapses u ∙ works.lapses u op takes;
}

-- a worker's load without the job that has ended
ended_load : (old : Queue) (s : Setup) (h : History) (n u : ℕ) → Works old s h → is_on (job_of old n) u ≡ at_worker (worker_in h n) u
ended_load old s h n u works = ap (λ (o : Option ℕ). is_on o u) (works.jobs n) ∙ on_worker (worker_in h n) u

pub finished_works : FinishedWorks
finished_works s h old new n outs finishes works = record {
  slots = λ u. finishes.ended.workers.slots u ∙ works.slots u;
  takes = λ u op. finishes.ended.workers.takes u op ∙ works.takes u op;
  tries = finishes.ended.workers.tries ∙ works.tries;
  some_tries = works.some_tries;
  few_tries = works.few_tries;
  jobs = λ m. finishes.ended.jobs m ∙ ap (λ (o : Option ℕ). if n == m then None else o) (works.jobs m);
  loads = λ u. finishes.ended.busy u ∙ ap (λ (i : ℕ). i - is_on (job_of old n) u) (works.loads u) ∙ ap (λ (i : ℕ). busy h u - i) (ended_load old s h n u works);
  failures = λ m. finishes.failures m ∙ works.failures m;
  lapses = λ u op takes. finishes.lapses u ∙ works.lapses u op takes;
}

one_more : (a b : History) (n m : ℕ) (was : ℕ) (now : ℕ) → task_failures b m ≡ task_failures a m + (if n == m then 1 else 0) → was ≡ min (task_failures a m) most → now ≡ (if n == m then min (was + 1) most else was) → now ≡ min (task_failures b m) most
one_more a b n m was now more before after = of_test (n == m) more after
  where
    of_test : (t : Bool) → task_failures b m ≡ task_failures a m + (if t then 1 else 0) → now ≡ (if t then min (was + 1) most else was) → now ≡ min (task_failures b m) most
    of_test true x y = omega arith
    of_test false x y = omega arith

-- after a job has failed, or was refused
pub works_after : (s : Setup) (a b : History) (old new : Queue) (r : Ready) → IsAfterFailure a b r.n → FailsTask r old new → Works old s a → Works new s b
works_after s a b old new r after fails works = record {
  slots = λ u. fails.ended.workers.slots u ∙ works.slots u;
  takes = λ u op. fails.ended.workers.takes u op ∙ works.takes u op;
  tries = fails.ended.workers.tries ∙ works.tries;
  some_tries = works.some_tries;
  few_tries = works.few_tries;
  jobs = λ m. fails.ended.jobs m ∙ ap (λ (o : Option ℕ). if r.n == m then None else o) (works.jobs m) ∙ sym (after.workers m);
  loads = λ u. fails.ended.busy u ∙ ap (λ (i : ℕ). i - is_on (job_of old r.n) u) (works.loads u) ∙ ap (λ (i : ℕ). busy a u - i) (ended_load old s a r.n u works) ∙ sym (after.loads u);
  failures = λ m. one_more a b r.n m (failures_of old m) (failures_of new m) (after.by_task m) (works.failures m) (fails.failures m);
  lapses = λ u op takes.
      let now = fails.lapses u op (works.takes u op ∙ takes) in
      let before = works.lapses u op takes in
      let on = ended_load old s a r.n u works in
      let more = after.by_worker u in omega arith;
}

pub failed_works : FailedWorks
failed_works s h old new r fails works = works_after s h (failed r.n ∷ h) old new r (after_failed h r.n) fails works

pub refused_works : RefusedWorks
refused_works s h old new r w job idle fails works = works_after s (started r.n w job ∷ h) (refused r.n w ∷ h) old new r (after_refused h r.n w job idle) fails works
