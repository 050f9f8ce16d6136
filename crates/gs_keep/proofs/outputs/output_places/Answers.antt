use Rattle.std.proofs.Common.{◌+◌, ◌++◌, sym, ap, ◌∙◌, List, ℕ, drop, arith}
use Rattle.gs_idl.specs.Interface.{params_at}
use Rattle.gs_keep.specs.Given.{output_places}
use Rattle.gs_keep.proofs.Noting.{places_pushed, places_kept, params_few}
use Rattle.gs_keep.proofs.outputs.output_places.Goals as goal
use Rattle.gs_keep.proofs.outputs.output_places.Goals.{then-is_output+in_ok-push, else-is_output}

pub loop-i-preserved : goal.loop-i-preserved
loop-i-preserved c =
    let ps = params_at c.args.idl.now.ops c.args.op in
    let i = c.loop-i.i in
    let whole = output_places 1 ps in
    let next = output_places (i + 1 + 1) (drop (i + 1) ps) in
    elim c.if-is_output.branch [
      | then-is_output+in_ok-push w ↦
          ap (λ v. v.items ++ next) w.places-is
          ∙ ap (λ (l : List ℕ). l ++ next) w.in_ok-push.ensures.items
          ∙ places_pushed c.loop-i.places.items ps i c.param.result.0 whole c.param.ensures.dir
          (sym c.is_output.ensures ∙ w.if-is_output.true) c.loop-i.invariant
      | else-is_output w ↦
          ap (λ v. v.items ++ next) w.places-is
          ∙ places_kept c.loop-i.places.items ps i c.param.result.0 whole c.param.ensures.dir
          (sym c.is_output.ensures ∙ w.if-is_output.false) c.loop-i.invariant
    ]

pub returns-clause-few : goal.returns-clause-few
returns-clause-few c =
    params_few c.args.idl.now.ops c.args.op c.op_count-count.ensures.well_formed.sized.ops.each
    c.requires

pub returns-clause-in_limit : goal.returns-clause-in_limit
returns-clause-in_limit c =
    let few = c.op_count-count.ensures.well_formed.sized.ops.few in omega (arith, few)
