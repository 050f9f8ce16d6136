use Rattle.std.proofs.Common.{◌≡◌, IfOk, List, subst, sym, ap, ◌∙◌}
use Rattle.std.specs.Option.{option_map}
use Rattle.gs_tree.specs.Program.{Code, block, for, choose, while}
use Rattle.gs_tree.specs.View.{setting_of, term_of, code_of, codes_of}
use Rattle.gs_tree.specs.declared.tree.Stmt.{Stmt}
use Rattle.gs_orders.specs.Says.{scene}
use Rattle.gs_orders.specs.Emitted.{Wrote, WroteAll, WroteTest}
use Rattle.gs_orders.specs.declared.order.Order.TheVariants as order
use Rattle.gs_orders.proofs.Emitting.{maybe_else, code_block, code_if, code_while, code_for, wrote_if_last, wrote_for_last}
use Rattle.gs_orders.proofs.emit.+emit.Goals as goal

pub emit-returns-in-Block-clause-says : goal.emit-returns-in-Block-clause-says
emit-returns-in-Block-clause-says t c =
    let sc = scene c.args.names.now c.args.idl.now.ops in
    let old = c.args.orders.now.items in
    let new = c.emit_all.new.orders.items in
    let is : code_of c.args.s.now ≡ block c.in-Block.line (codes_of c.in-Block.body.items) = ap code_of c.in-Block.is ∙ code_block c.in-Block.line c.in-Block.body in
    subst (λ (x : Code). IfOk c.emit_all.result (λ here. Wrote sc old here x c.args.next new)) (sym is)
    (subst (λ (xs : List Stmt). IfOk c.emit_all.result (λ here. WroteAll sc old here (codes_of xs) c.args.next new)) c.deref.ensures.value c.emit_all.ensures.says)

pub emit-returns-in_ok-no-in-If-clause-says : goal.emit-returns-in_ok-no-in-If-clause-says
emit-returns-in_ok-no-in-If-clause-says t c =
    let sc = scene c.args.names.now c.args.idl.now.ops in
    let old = c.args.orders.now.items in
    let mid = c.emit_else.new.orders.items in
    let new = c.emit_test.new.orders.items in
    let x = c.in-If in
    let is : code_of c.args.s.now ≡ choose x.line (term_of x.cond) (codes_of x.yes.items) (maybe_else x.no) = ap code_of x.is ∙ code_if x.line x.cond x.yes x.no in
    let test : IfOk c.emit_test.result (λ here. WroteTest sc mid here x.line (term_of x.cond) (codes_of x.yes.items) c.in_ok-no-in-If.no c.args.next new) =
    subst (λ (xs : List Stmt). IfOk c.emit_test.result (λ here. WroteTest sc mid here x.line (term_of x.cond) (codes_of xs) c.in_ok-no-in-If.no c.args.next new)) c.deref-in-If.ensures.value c.emit_test.ensures.says in
    subst (λ (x : Code). IfOk c.emit_test.result (λ here. Wrote sc old here x c.args.next new)) (sym is)
    (wrote_if_last sc old mid new c.emit_test.result c.args.next x.line c.in_ok-no-in-If.no (term_of x.cond) (codes_of x.yes.items) x.no c.in_ok-no-in-If.ensures.kept c.in_ok-no-in-If.ensures.says c.emit_test.ensures.kept test)

pub emit-returns-in-While-clause-says : goal.emit-returns-in-While-clause-says
emit-returns-in-While-clause-says t c =
    let sc = scene c.args.names.now c.args.idl.now.ops in
    let old = c.args.orders.now.items in
    let new = c.emit_while.new.orders.items in
    let x = c.in-While in
    let is : code_of c.args.s.now ≡ while x.line (term_of x.cond) (codes_of x.body.items) = ap code_of x.is ∙ code_while x.line x.cond x.body in
    subst (λ (y : Code). IfOk c.emit_while.result (λ here. Wrote sc old here y c.args.next new)) (sym is)
    (subst (λ (xs : List Stmt). IfOk c.emit_while.result (λ here. Wrote sc old here (while x.line (term_of x.cond) (codes_of xs)) c.args.next new)) c.deref-in-While.ensures.value c.emit_while.ensures.says)

pub emit-returns-in-For-clause-says : goal.emit-returns-in-For-clause-says
emit-returns-in-For-clause-says t c =
    let sc = scene c.args.names.now c.args.idl.now.ops in
    let old = c.args.orders.now.items in
    let new = c.emit_for.new.orders.items in
    let x = c.in-For in
    let made : List Stmt → Code = λ xs. for x.line (option_map setting_of x.first) (option_map term_of x.cond) (option_map setting_of x.step) (codes_of xs) in
    let is : code_of c.args.s.now ≡ made x.body.items = ap code_of x.is ∙ code_for x.line x.first x.cond x.step x.body in
    subst (λ (y : Code). IfOk c.emit_for.result (λ here. Wrote sc old here y c.args.next new)) (sym is)
    (subst (λ (xs : List Stmt). IfOk c.emit_for.result (λ here. Wrote sc old here (made xs) c.args.next new)) c.deref-in-For.ensures.value c.emit_for.ensures.says)

pub emit_for-returns-clause-says : goal.emit_for-returns-clause-says
emit_for-returns-clause-says t c =
    wrote_for_last (scene c.args.names.now c.args.idl.now.ops) c.args.orders.now.items c.add.new.orders.items c.emit_maybe.new.orders.items c.emit_all.new.orders.items c.write.new.orders.items c.emit_maybe-2.new.orders.items
    c.emit_maybe-2.result c.in_ok-test.test c.args.next c.args.line c.in_ok-yes.yes c.in_ok-back.back (order.Leave c.args.line)
    (option_map setting_of c.args.first.now) (option_map setting_of c.args.step.now) (option_map term_of c.args.cond.now) c.in_ok-value.value (codes_of c.args.body.now)
    c.in_ok-test.ensures c.in_ok-back.ensures.kept c.in_ok-back.ensures.says c.in_ok-yes.ensures.kept c.in_ok-yes.ensures.says
    c.in_ok-value.ensures c.write.ensures c.emit_maybe-2.ensures.kept c.emit_maybe-2.ensures.says
