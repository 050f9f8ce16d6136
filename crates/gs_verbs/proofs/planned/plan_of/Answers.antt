use Rattle.std.proofs.Common.{refl}
use Rattle.gs_verbs.specs.Planning.{HasRun}
use Rattle.gs_verbs.proofs.Plans.{unread_plan, plan_made, has_run}
use Rattle.gs_verbs.proofs.planned.plan_of.Goals as goal

pub returns-in-Err-durations_in-clause-plan : goal.returns-in-Err-durations_in-clause-plan
returns-in-Err-durations_in-clause-plan c = λ file of.
    let run : HasRun c.args.store.now.entries c.in-Ok.idl c.in-Some.g.now =
    has_run c.args.store.now.entries c.in-Ok.idl c.in-Some.g.now c.op_count.result
    c.items.result.now c.in-Ok.ensures c.in-Some.ensures.value c.op_count.ensures.value
    c.items.ensures (c.if-not-fits.ensures.0 refl) in
    unread_plan c.args.store.now.entries file c.in-Err-durations_in.stop c.in-Ok.idl
    c.in-Some.g.now run (c.in-Err-durations_in.ensures.says file of)

pub returns-clause-plan : goal.returns-clause-plan
returns-clause-plan c = λ file of.
    let run : HasRun c.args.store.now.entries c.in-Ok.idl c.in-Some.g.now =
    has_run c.args.store.now.entries c.in-Ok.idl c.in-Some.g.now c.op_count.result
    c.items.result.now c.in-Ok.ensures c.in-Some.ensures.value c.op_count.ensures.value
    c.items.ensures (c.if-not-fits.ensures.0 refl) in
    plan_made c.args.slots c.args.store.now.entries file c.planned.result c.in-Ok.idl
    c.in-Some.g.now c.in-Ok-durations_in.durations.items c.as_slice.result.now
    c.items-2.result.now run (c.in-Ok-durations_in.ensures.says file of)
    c.as_slice.ensures.value c.items-2.ensures c.planned.ensures
