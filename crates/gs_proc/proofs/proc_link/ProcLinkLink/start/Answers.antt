use Rattle.std.proofs.Common.{◌∙◌, ap, rules, List}
use Rattle.gs_types.specs.declared.job.Job.{Job}
use Rattle.gs_site.specs.Jobs.{job_at}
use Rattle.gs_site.specs.JobFacts.{job_push}
use Rattle.gs_proc.specs.Tasks.{calls}
use Rattle.gs_proc.proofs.proc_link.ProcLinkLink.start.Goals as goal

pub returns-in-Ok-clause-started : goal.returns-in-Ok-clause-started
returns-in-Ok-clause-started g c = record {
  flies = record { each = λ m. ap (λ (js : List Job). job_at js m) c.in-Ok.ensures.ok ∙ job_push (calls c.args.self.now.tasks.list) c.args.job.now m c.requires.idle };
  stays = tt;
  count = search rules;
  calm = search rules;
}
