use Rattle.std.proofs.Common.{◌≡◌, ◌∙◌, ap, sym, rules, List, [], ◌∷◌, ◌++◌}
use Rattle.gs_types.specs.History as events
use Rattle.gs_types.specs.History.{History}
use Rattle.gs_types.specs.declared.job.Job.{Job}
use Rattle.gs_site.specs.Desk.{DeskState}
use Rattle.gs_site.specs.Jobs.{job_at}
use Rattle.gs_site.specs.JobFacts.{job_push}
use Rattle.gs_site.proofs.memory.MemLinkLink.start.Goals as goal

pub returns-in-Ok-clause-started : goal.returns-in-Ok-clause-started
returns-in-Ok-clause-started g c =
    let behind : c.start.new.self.jobs ≡ c.args.self.now.desk.jobs ++ c.args.job.now ∷ [] = ap (λ (d : DeskState). d.jobs) c.in-Ok.ensures.ok in
    record {
      flies = record { each = λ m. ap (λ (js : List Job). job_at js m) behind ∙ job_push c.args.self.now.desk.jobs c.args.job.now m c.requires.idle };
      stays = tt;
      count = search rules;
      calm = search rules;
    }

pub returns-in-Ok-clause-told : goal.returns-in-Ok-clause-told
returns-in-Ok-clause-told g c = λ past told.
    ap (λ (h : History). events.started c.args.job.now.n c.args.job.now.worker c.args.job.now ∷ h) told ∙ sym (ap (λ (d : DeskState). d.told) c.in-Ok.ensures.ok)
