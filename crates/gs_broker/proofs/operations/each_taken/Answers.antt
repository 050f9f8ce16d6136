use Rattle.std.proofs.Common.{◌≡◌, ◌∙◌, map, replicate}
use Rattle.std.proofs.lemmas.Result.{IfOk-weaker}
use Rattle.gs_broker.proofs.Marking.{each_alike}
use Rattle.gs_broker.proofs.operations.each_taken.Goals as goal

pub returns-clause-each : goal.returns-clause-each
returns-clause-each c =
    IfOk-weaker c.alike.result (λ v. v.items ≡ replicate c.op_count.result c.args.taken) (λ v. v.items ≡ map (λ o. c.args.taken) c.args.idl.now.ops)
    (λ v e. e ∙ each_alike c.args.idl.now.ops c.args.taken c.op_count.result c.op_count.ensures.value) c.alike.ensures
