use Rattle.std.proofs.Common.{◌∙◌, ap, sym, subst, refl, is_some, Some}
use Rattle.gs_proc.specs.Tasks.{calls, EndedWell}
use Rattle.gs_site.specs.Jobs.{job_at}
use Rattle.gs_proc.proofs.TaskLists.{task_is}
use Rattle.gs_proc.proofs.proc_link.ProcLink.finish.Goals as goal

pub returns-in-Some-clause-last : goal.returns-in-Some-clause-last
returns-in-Some-clause-last g c =
    let same = task_is c.at.result.now c.take.result (sym c.at.ensures.here ∙ c.take.ensures.here) in
    let asked = task_is c.requires.task c.take.result (sym c.requires.here ∙ c.take.ensures.here) in
    record {
      task = c.take.result;
      last = refl;
      flew = ap (job_at (calls c.args.self.now.tasks.list)) c.n-n.ensures ∙ c.at.ensures.only ∙ ap (λ t. Some t.call) same;
      well = λ finished. subst (λ t. EndedWell t.child) asked (c.requires.ended.well (c.in_ok-outs.ensures.well (ap is_some c.in-Some.is)));
    }

pub returns-in-None-clause-last : goal.returns-in-None-clause-last
returns-in-None-clause-last g c =
    let same = task_is c.at.result.now c.take.result (sym c.at.ensures.here ∙ c.take.ensures.here) in
    record {
      task = c.take.result;
      last = c.fail.ensures.last;
      flew = ap (job_at (calls c.args.self.now.tasks.list)) c.n-n.ensures ∙ c.at.ensures.only ∙ ap (λ t. Some t.call) same;
      well = λ finished. absurd finished;
    }
