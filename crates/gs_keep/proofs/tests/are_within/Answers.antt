use Rattle.std.proofs.Common.{get_or, ◌∙◌, subst, arith, below_more}
use Rattle.std.proofs.lemmas.List.{get_or_default}
use Rattle.gs_types.specs.declared.value.Value.{Value}
use Rattle.gs_keep.specs.Given.{IsWithin}
use Rattle.gs_keep.proofs.tests.are_within.Goals as goal

pub loop-v-preserved : goal.loop-v-preserved
loop-v-preserved c =
    let outs = c.args.outs.now in
    let i = c.loop-v.v-index in
    let v = c.v-item.result in
    below_more (λ k. (d : Value) → IsWithin (get_or outs k d)) i c.loop-v.invariant
    (λ d. subst IsWithin (c.v-item.is ∙ get_or_default outs i v d c.loop-v-test.true)
    c.if-not-is_within.ensures)

pub returns : goal.returns
returns c = λ k d lt. c.loop-v.invariant k (omega arith) d
