use Rattle.std.proofs.Common.{◌*◌, ◌^◌, ◌%◌, ℕ, List, sym, ap, ◌∙◌, subst, arith}
use Rattle.std.proofs.Math.Pow.{pow_mono}
use Rattle.gs_plan.specs.Keys.{IsTree, leaves}
use Rattle.gs_plan.proofs.Heap.{alike_tree, alike_leaves}
use Rattle.gs_plan.proofs.keys.Keys.new.Goals as goal

pub invariant_of-result : goal.invariant_of-result
invariant_of-result c =
    let small = pow_mono {i = c.args.levels} {j = 16} c.requires in
    (subst (λ (ns : List ℕ). IsTree ns c.args.levels) (sym c.in_ok-nodes.ensures) (alike_tree c.args.levels (2 * 2 ^ c.args.levels % 18446744073709551616) 18446744073709551615 (omega arith)), c.requires)

pub returns : goal.returns
returns c =
    let small = pow_mono {i = c.args.levels} {j = 16} c.requires in
    ap (λ (ns : List ℕ). leaves ns c.args.levels) c.in_ok-nodes.ensures ∙ alike_leaves c.args.levels (2 * 2 ^ c.args.levels % 18446744073709551616) 18446744073709551615 (omega arith)
