use Rattle.std.proofs.Common.{Option, subst}
use Rattle.gs_run.specs.Judging.{IsTextOf, IsFileOf}
use Rattle.gs_run.specs.declared.texts.Text.{Text}
use Rattle.gs_run.proofs.Planning.{plan_told}
use Rattle.gs_run.proofs.judge.judge.Goals as goal

pub returns-clause-judged : goal.returns-clause-judged
returns-clause-judged g c = λ told.
    let file = (g.D.Disk.state c.args.disk.now).folder c.args.words.now.workers in
    let is : IsTextOf file c.in-Ok-Some.list =
    subst (λ (o : Option Text). IsFileOf file o) c.in-Ok-Some.field-0-is
    (c.in-Ok-Some.ensures.text told) in
    plan_told c.args.texts.now file c.in-Ok-Some.list c.args.words.now.idl
    c.args.words.now.program c.args.words.now.workers c.plan_of.result is
    (c.plan_of.ensures.says file is)
