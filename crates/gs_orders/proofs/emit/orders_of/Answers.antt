use Rattle.std.proofs.Common.{List, length, map, subst, refl}
use Rattle.gs_tree.specs.declared.tree.Assign.{Assign}
use Rattle.gs_tree.specs.declared.tree.Stmt.{Stmt}
use Rattle.gs_tree.specs.View.{setting_of, codes_of}
use Rattle.gs_orders.specs.Says.{scene, SaysAll, SaysFirst}
use Rattle.gs_orders.specs.declared.order.Order.TheVariants as order
use Rattle.gs_orders.proofs.Emitting.{added_at, added_kept, agrees_back, kept_then}
use Rattle.gs_orders.proofs.emit.orders_of.Goals as goal

pub returns : goal.returns
returns c =
    let sc = scene c.args.names.now c.args.idl.now.ops in
    let first = c.new-list.result.items in
    let with_off = c.add.new.orders.items in
    let with_body = c.emit_all.new.orders.items in
    let with_on = c.add-2.new.orders.items in
    let all = c.emit_first.new.orders.items in
    let leave = order.Leave c.args.tree.now.off in
    let go_on = order.Skip 0 c.in_ok-body.body in
    let from_on = c.in_ok-start.ensures.kept in
    let from_body = kept_then with_body with_on all (added_kept with_body with_on c.in_ok-on.on go_on c.in_ok-on.ensures) from_on in
    let from_off = kept_then with_off with_body all c.in_ok-body.ensures.kept from_body in
    record {
      on = c.in_ok-on.on;
      body_at = c.in_ok-body.body;
      off = c.in_ok-off.off;
      first = subst (λ (xs : List Assign). SaysFirst sc all c.in_ok-start.start (map setting_of xs) c.in_ok-on.on) c.deref-2.ensures.value (c.in_ok-start.ensures.says all (λ i from_i i_to. refl));
      begins = added_at with_body with_on all c.in_ok-on.on go_on c.in_ok-on.ensures (agrees_back (length with_body) with_on all all from_on (λ i from_i i_to. refl));
      body = subst (λ (xs : List Stmt). SaysAll sc all c.in_ok-body.body (codes_of xs) c.in_ok-off.off) c.deref.ensures.value (c.in_ok-body.ensures.says all (agrees_back (length with_off) with_body all all from_body (λ i from_i i_to. refl)));
      ends = added_at first with_off all c.in_ok-off.off leave c.in_ok-off.ensures (agrees_back (length first) with_off all all from_off (λ i from_i i_to. refl));
    }
