use Rattle.std.proofs.Common.{◌≡◌, subst, List, Some, IfOk}
use Rattle.gs_types.specs.declared.job.Job.{Job}
use Rattle.gs_site.specs.Jobs.{job_at}
use Rattle.gs_site.specs.Link.{FitsJob, task_of}
use Rattle.gs_proc.specs.Tasks.{calls}
use Rattle.gs_proc.proofs.Waits.{flies_no_more, all_stay, counts_failure, calm_without, last_since}
use Rattle.gs_proc.proofs.proc_link.ProcLinkLink.next.Goals as goal

pub returns-in-Some-clause-ended : goal.returns-in-Some-clause-ended
returns-in-Some-clause-ended g c = record {
  ended = subst (λ (js : List Job). IfOk c.finish.result (λ e. (job : Job) × (job_at js (task_of e) ≡ Some job) × FitsJob job e)) c.wait.ensures.calls c.finish.ensures.ended;
  flies = flies_no_more (calls c.args.self.now.tasks.list) (calls c.wait.new.self.list) (calls c.finish.new.self.tasks.list) c.finish.result c.wait.ensures.calls c.finish.ensures.jobs;
  stays = all_stay (calls c.args.self.now.tasks.list) (calls c.wait.new.self.list) (calls c.finish.new.self.tasks.list) c.finish.result c.wait.ensures.calls c.finish.ensures.order;
  count = counts_failure c.args.self.now.faults c.finish.new.self.faults c.finish.result c.finish.ensures.rise c.finish.ensures.count;
  calm = calm_without c.args.self.now.faults c.finish.new.self.faults c.finish.result c.finish.ensures.count;
}

pub returns-in-Some-clause-last : goal.returns-in-Some-clause-last
returns-in-Some-clause-last g c = last_since c.args.self.now _ c.finish.new.self c.finish.result c.wait.ensures.calls c.finish.ensures.last
