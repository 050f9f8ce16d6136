use Rattle.std.proofs.Common.{Ok, Err, subst}
use Rattle.gs_idl.specs.Interface.{Interface}
use Rattle.gs_run.specs.Judging.{ListOf}
use Rattle.gs_run.proofs.Planning.{both_as, wrong_plan, bad_plan, plan_so}
use Rattle.gs_run.proofs.judge.plan_of.Goals as goal

pub returns-in-Err-clause-says : goal.returns-in-Err-clause-says
returns-in-Err-clause-says c = λ file is. wrong_plan c.args.texts.now file c.args.words.now.idl
    c.args.words.now.program c.args.words.now.workers c.in-Err.refusal
    (both_as c.bytes.result.now c.bytes-2.result.now c.args.texts.now.idl
    c.args.texts.now.program c.args.words.now.idl c.args.words.now.program
    (Err c.in-Err.refusal) c.bytes.ensures.value c.bytes-2.ensures.value c.in-Err.ensures.says)

pub returns-in-Ok-workers_of-clause-says : goal.returns-in-Ok-workers_of-clause-says
returns-in-Ok-workers_of-clause-says c = λ file is. plan_so c.args.texts.now file
    c.args.words.now.idl c.args.words.now.program c.args.words.now.workers c.in-Ok.checked
    c.in-Ok-workers_of.workers c.planned.result
    (both_as c.bytes.result.now c.bytes-2.result.now c.args.texts.now.idl
    c.args.texts.now.program c.args.words.now.idl c.args.words.now.program
    (Ok c.in-Ok.checked) c.bytes.ensures.value c.bytes-2.ensures.value c.in-Ok.ensures.says)
    (subst (λ (i : Interface). ListOf i.ops file c.args.words.now.workers
    (Ok c.in-Ok-workers_of.workers)) c.idl.ensures
    (c.in-Ok-workers_of.ensures.says file is)) c.planned.ensures

pub returns-in-Err-workers_of-clause-says : goal.returns-in-Err-workers_of-clause-says
returns-in-Err-workers_of-clause-says c = λ file is. bad_plan c.args.texts.now file
    c.args.words.now.idl c.args.words.now.program c.args.words.now.workers c.in-Ok.checked
    c.in-Err-workers_of.refusal
    (both_as c.bytes.result.now c.bytes-2.result.now c.args.texts.now.idl
    c.args.texts.now.program c.args.words.now.idl c.args.words.now.program
    (Ok c.in-Ok.checked) c.bytes.ensures.value c.bytes-2.ensures.value c.in-Ok.ensures.says)
    (subst (λ (i : Interface). ListOf i.ops file c.args.words.now.workers
    (Err c.in-Err-workers_of.refusal)) c.idl.ensures
    (c.in-Err-workers_of.ensures.says file is))
