use Rattle.std.proofs.Common.{◌≡◌, ℕ, drop, map, subst, arith}
use Rattle.gs_tree.specs.View.{setting_of}
use Rattle.gs_orders.specs.Says.{scene}
use Rattle.gs_orders.specs.Emitted.{WroteFirst}
use Rattle.gs_orders.proofs.emit.emit_first.Goals as goal

pub returns-clause-says : goal.returns-clause-says
returns-clause-says c =
    let first = c.args.first.now in
    let at_start : c.back.i ≡ 0 = omega (arith, c.back-test.false) in
    subst (λ (i : ℕ). WroteFirst (scene c.args.names.now c.args.idl.now.ops) c.args.orders.now.items c.back.here (map setting_of (drop i first)) c.args.next c.back.orders.items)
    at_start c.back.invariant.says
