use Rattle.std.proofs.Common.{◌≡◌, ◌≤◌, ◌<◌, ◌∙◌, ap, sym, subst, ℕ, ◌∷◌, length, rules, IsSome}
use Rattle.gs_types.specs.History.{History}
use Rattle.gs_types.specs.declared.job.Job.{Job}
use Rattle.gs_site.specs.Desk.{DeskState}
use Rattle.gs_site.specs.Jobs.{job_at}
use Rattle.gs_site.specs.Link.{IsByLaw}
use Rattle.gs_site.specs.Past.{event_told}
use Rattle.gs_site.proofs.Ends.{ends_fitting, ends_by_law, counts_end, event_after}
use Rattle.gs_site.specs.JobFacts.{busy_some, job_without}
use Rattle.gs_site.proofs.Jobs.{job_picked, some_is}
use Rattle.gs_site.proofs.memory.MemLinkLink.next.Goals as goal

pub job-requires : goal.job-requires
job-requires g c =
    let jobs = c.args.self.now.desk.jobs in
    let some : 0 < length jobs = busy_some jobs c.requires.busy.0 c.requires.busy.1 in
    subst (λ (n : ℕ). IsSome (job_at jobs n)) (sym c.pick-n.ensures) (job_picked jobs c.turn_at-turn.result.pick some)

pub returns-clause-ended : goal.returns-clause-ended
returns-clause-ended g c =
    let law = g.L.Law.meaning c.args.self.now.law in
    let event = c.in_ok-event.event in
    let rise : c.args.self.now.faults ≤ c.count-self.result = search rules in
    record {
      ended = (
        c.job.result.now,
        ap (λ (n : ℕ). job_at c.args.self.now.desk.jobs n) c.in_ok-event.ensures.task ∙ c.job.ensures,
        ends_fitting law c.turn_at-turn.result.well c.job.result.now event c.in_ok-event.ensures.end,
      );
      flies = record { each = λ m. ap (λ (d : DeskState). job_at d.jobs m) c.in_ok-end.ensures.ok ∙ job_without _ c.args.self.now.desk.jobs m };
      stays = tt;
      count = counts_end event c.args.self.now.faults c.count-self.result rise c.count-self.ensures;
      calm = tt;
    }

pub returns-clause-told : goal.returns-clause-told
returns-clause-told g c = λ past told.
    let event = c.in_ok-event.event in
    event_after event past ∙ ap (λ (h : History). event_told event ∷ h) told ∙ sym (ap (λ (d : DeskState). d.told) c.in_ok-end.ensures.ok)

pub returns-clause-by_law : goal.returns-clause-by_law
returns-clause-by_law g c = λ past told job at.
    let law = g.L.Law.meaning c.args.self.now.law in
    let event = c.in_ok-event.event in
    let same : c.job.result.now ≡ job = some_is _ _ (sym c.job.ensures ∙ ap (λ (n : ℕ). job_at c.args.self.now.desk.jobs n) (sym c.in_ok-event.ensures.task) ∙ at) in
    subst (λ (j : Job). IsByLaw law j event) same (ends_by_law law c.turn_at-turn.result.well c.job.result.now event c.in_ok-event.ensures.end)
