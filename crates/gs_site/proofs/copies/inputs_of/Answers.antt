use Rattle.std.proofs.Common.{◌∙◌, ◌<◌, ◌∷◌, ◌++◌, [], List, length, take, sym, ap, arith}
use Rattle.gs_types.specs.Job.{inputs}
use Rattle.gs_types.specs.declared.value.Value.{Value}
use Rattle.gs_types.specs.declared.job.Arg.{Arg}
use Rattle.gs_site.proofs.Inputs.{inputs-take_next}
use Rattle.gs_site.proofs.copies.inputs_of.Goals as goal

pub loop-arg-preserved : goal.loop-arg-preserved
loop-arg-preserved c =
    let lt : c.loop-arg.arg-index < length c.args.args.now = omega arith in
    let next = inputs-take_next c.args.args.now c.loop-arg.arg-index c.arg-item.result lt in
    let item = ap (λ (a : Arg). inputs (a ∷ [])) c.arg-item.is in
    c.in_ok-put_input.ensures ∙ ap (λ (vs : List Value). vs ++ inputs (c.arg-item.result ∷ [])) c.loop-arg.invariant ∙ ap (λ (vs : List Value). inputs (take c.loop-arg.arg-index c.args.args.now) ++ vs) item ∙ sym next
