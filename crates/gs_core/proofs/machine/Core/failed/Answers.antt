use Rattle.std.proofs.Common.{◌∷◌, ℕ, refl, sym, ap, subst, Option, Some, IsSome, is_some}
use Rattle.gs_types.specs.History.{History, started, refused, failed, worker_in}
use Rattle.gs_broker.specs.Outcome.{IsLoss as IsTaskLoss}
use Rattle.gs_queue.specs.Queue.{tries_of, failures_of}
use Rattle.gs_main.specs.Shown.{talking}
use Rattle.gs_history.proofs.Opening.{after_failed, after_refused, if_here}
use Rattle.gs_works.specs.Works.{FailsTask}
use Rattle.gs_works.proofs.Losing.{failed_loss, refused_loss, loss_stays, started_not_lost}
use Rattle.gs_core.specs.Core.{AtRest}
use Rattle.gs_core.specs.declared.losing.Lost.{Lost}
use Rattle.gs_core.proofs.Carrying.{made_same}
use Rattle.gs_core.proofs.Failures.{bears_failed, rest_failed}
use Rattle.gs_core.proofs.machine.Core.failed.Goals as goal

pub returns-clause-stands : goal.returns-clause-stands
returns-clause-stands c = λ s k h settled is fits.
    let self = c.args.self.now in
    let old = self.queue in
    let new = c.failed-loss.new.self in
    let n = c.args.n in
    let b : History = failed n ∷ h in
    let e = c.failed-loss.ensures in
    let loss = c.failed-loss.result in
    let stranded = c.no_worker-stranded.result in
    let fails : FailsTask c.listed.result old new = record { ended = e.ended; listed = e.listed; failures = e.failures; lapses = e.lapses } in
    let number = c.listed.ensures.number in
    let loses = subst (λ (i : ℕ). IsTaskLoss (failures_of old i) (tries_of old) i loss) number e.loss in
    let bears = bears_failed self.tables old new s k h b n c.listed.result number (after_failed h n) fails (is.bears.tables.good, fits) fits.flies is.made.small c.listed.ensures.says is.bears in
    record {
      bears = bears;
      made = made_same (talking self.main) old new s e.ended.workers.listed is.made;
      talks = is.talks;
      rest = subst (λ (l : Option Lost). AtRest l self.stage self.asked s k b) (sym c.next_loss-self.ensures)
          (rest_failed self.tables self.lost self.stage self.asked s k h b loss stranded settled is.bears.tables (λ m. refl) (λ x lost. loss_stays s (failed n) h x tt lost)
          (λ losses frontier. failed_loss s k h old new n loss stranded losses is.bears.works bears.works bears.lists frontier loses c.no_worker-stranded.ensures.stranded) is.rest);
    }

pub returns-clause-refused : goal.returns-clause-refused
returns-clause-refused c = λ s k h w j settled is fits.
    let self = c.args.self.now in
    let old = self.queue in
    let new = c.failed-loss.new.self in
    let n = c.args.n in
    let a : History = started n w j ∷ h in
    let b : History = refused n w ∷ h in
    let e = c.failed-loss.ensures in
    let loss = c.failed-loss.result in
    let stranded = c.no_worker-stranded.result in
    let fails : FailsTask c.listed.result old new = record { ended = e.ended; listed = e.listed; failures = e.failures; lapses = e.lapses } in
    let number = c.listed.ensures.number in
    let loses = subst (λ (i : ℕ). IsTaskLoss (failures_of old i) (tries_of old) i loss) number e.loss in
    let idle = fits.due.ready.idle in
    let flies : IsSome (worker_in a n) = ap is_some (if_here n (Some w) (worker_in h n)) in
    let bears = bears_failed self.tables old new s k a b n c.listed.result number (after_refused h n w j idle) fails (is.bears.tables.good.0, fits) flies is.made.small c.listed.ensures.says is.bears in
    record {
      bears = bears;
      made = made_same (talking self.main) old new s e.ended.workers.listed is.made;
      talks = is.talks;
      rest = subst (λ (l : Option Lost). AtRest l self.stage self.asked s k b) (sym c.next_loss-self.ensures)
          (rest_failed self.tables self.lost self.stage self.asked s k a b loss stranded settled is.bears.tables (λ m. refl) (λ x lost. absurd (started_not_lost s h n w j x fits.due.losses lost))
          (λ losses frontier. refused_loss s k h old new n w j loss stranded idle fits.due.losses is.bears.works bears.works bears.lists frontier loses c.no_worker-stranded.ensures.stranded) is.rest);
    }
