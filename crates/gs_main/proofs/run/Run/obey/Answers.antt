use Rattle.std.proofs.Common.{[], List, map, true, false, Ok, Err, refl, subst}
use Rattle.gs_talk.specs.declared.formula.Formula.{Formula}
use Rattle.gs_talk.specs.Talk.{ended}
use Rattle.gs_talk.specs.View.{placed_of, all_placed_of}
use Rattle.gs_orders.specs.declared.hand.Handed.{Handed}
use Rattle.gs_orders.specs.declared.order.Order.TheVariants as order
use Rattle.gs_orders.specs.Says.{IsAt}
use Rattle.gs_orders.specs.Steps.{skip, put, load, fetch, save, wait, show, show_in, show_to, send, leave, handed_of}
use Rattle.gs_main.specs.Meanings.{assigning, showing, showing_to, showing_in, loading, fetching, saving, pausing, sending}
use Rattle.gs_main.specs.Seen.{given_of, Does}
use Rattle.gs_main.proofs.Leaving.{exact_assigning, exact_showing, exact_showing_to, exact_showing_in, exact_loading, exact_fetching, exact_saving, exact_pausing, exact_sending}
use Rattle.gs_main.proofs.Moving.{order_is, arm_moves, leaves_moves}
use Rattle.gs_main.proofs.run.Run.obey.Goals as goal

pub returns-in-Set : goal.returns-in-Set
returns-in-Set c =
    let t = given_of c.args.script.now in
    let orders = c.args.script.now.orders.items in
    let old = c.args.self.now in
    let x = c.in-Set in
    let a = c.after-in-Set in
    let mid = c.assign-done.new.self in
    let is : IsAt orders old.at (put x.line x.to (placed_of x.value) x.next) = order_is orders old.at c.args.order.now (order.Set x.line x.to x.value x.next) c.requires.stands x.is in
    arm_moves true false t orders (assigning x.line x.to (placed_of x.value)) x.line [] x.next (put x.line x.to (placed_of x.value) x.next) old c.assign-done.result mid a.result a.new.self (λ e. absurd (cc)) is (λ n s go. refl) (exact_assigning x.line x.to (placed_of x.value)) c.requires.steps c.requires.waits
    c.assign-done.ensures a.ensures.done a.ensures.at a.ensures.steps a.ensures.work

pub returns-in-Open : goal.returns-in-Open
returns-in-Open c =
    let t = given_of c.args.script.now in
    let orders = c.args.script.now.orders.items in
    let old = c.args.self.now in
    let x = c.in-Open in
    let a = c.after-in-Open in
    let mid = c.open-done.new.self in
    let is : IsAt orders old.at (load x.line x.to (placed_of x.path) x.mode x.next) = order_is orders old.at c.args.order.now (order.Open x.line x.to x.path x.mode x.next) c.requires.stands x.is in
    arm_moves true false t orders (loading t x.line x.to (placed_of x.path) x.mode) x.line [] x.next (load x.line x.to (placed_of x.path) x.mode x.next) old c.open-done.result mid a.result a.new.self (λ e. absurd (cc)) is (λ n s go. refl) (exact_loading t x.line x.to (placed_of x.path) x.mode) c.requires.steps c.requires.waits
    c.open-done.ensures a.ensures.done a.ensures.at a.ensures.steps a.ensures.work

pub returns-in-Read : goal.returns-in-Read
returns-in-Read c =
    let t = given_of c.args.script.now in
    let orders = c.args.script.now.orders.items in
    let old = c.args.self.now in
    let x = c.in-Read in
    let a = c.after-in-Read in
    let mid = c.fetch-done.new.self in
    let is : IsAt orders old.at (fetch x.line x.got x.handle x.to x.next) = order_is orders old.at c.args.order.now (order.Read x.line x.got x.handle x.to x.next) c.requires.stands x.is in
    arm_moves true false t orders (fetching x.line x.got x.handle x.to) x.line [] x.next (fetch x.line x.got x.handle x.to x.next) old c.fetch-done.result mid a.result a.new.self (λ e. absurd (cc)) is (λ n s go. refl) (exact_fetching x.line x.got x.handle x.to) c.requires.steps c.requires.waits
    c.fetch-done.ensures a.ensures.done a.ensures.at a.ensures.steps a.ensures.work

pub returns-in-Close : goal.returns-in-Close
returns-in-Close c =
    let t = given_of c.args.script.now in
    let orders = c.args.script.now.orders.items in
    let old = c.args.self.now in
    let x = c.in-Close in
    let a = c.after-in-Close in
    let mid = c.save-done.new.self in
    let is : IsAt orders old.at (save x.line x.handle x.next) = order_is orders old.at c.args.order.now (order.Close x.line x.handle x.next) c.requires.stands x.is in
    arm_moves true false t orders (saving x.line x.handle) x.line [] x.next (save x.line x.handle x.next) old c.save-done.result mid a.result a.new.self (λ e. absurd (cc)) is (λ n s go. refl) (exact_saving x.line x.handle) c.requires.steps c.requires.waits
    c.save-done.ensures a.ensures.done a.ensures.at a.ensures.steps a.ensures.work

pub returns-in-Wait : goal.returns-in-Wait
returns-in-Wait c =
    let t = given_of c.args.script.now in
    let orders = c.args.script.now.orders.items in
    let old = c.args.self.now in
    let x = c.in-Wait in
    let a = c.after-in-Wait in
    let mid = c.pause.new.self in
    let is : IsAt orders old.at (wait x.line x.next) = order_is orders old.at c.args.order.now (order.Wait x.line x.next) c.requires.stands x.is in
    arm_moves true false t orders (pausing x.line) x.line [] x.next (wait x.line x.next) old (Err c.pause.result) mid a.result a.new.self (λ e. absurd (cc)) is (λ n s go. refl) (exact_pausing x.line) c.requires.steps c.requires.waits
    c.pause.ensures a.ensures.done a.ensures.at a.ensures.steps a.ensures.work

pub returns-in-Print : goal.returns-in-Print
returns-in-Print c =
    let t = given_of c.args.script.now in
    let orders = c.args.script.now.orders.items in
    let old = c.args.self.now in
    let x = c.in-Print in
    let a = c.after-in-Print in
    let mid = c.show-done.new.self in
    let is : IsAt orders old.at (show x.line x.format (all_placed_of x.args.items) x.next) = order_is orders old.at c.args.order.now (order.Print x.line x.format x.args x.next) c.requires.stands x.is in
    arm_moves true false t orders (showing x.line x.format (all_placed_of x.args.items)) x.line [] x.next (show x.line x.format (all_placed_of x.args.items) x.next) old c.show-done.result mid a.result a.new.self (λ e. absurd (cc)) is (λ n s go. refl) (exact_showing x.line x.format (all_placed_of x.args.items)) c.requires.steps c.requires.waits
    (subst (λ (fs : List Formula). Does true false (showing x.line x.format (all_placed_of fs)) x.line [] old.work c.show-done.result mid) c.deref.ensures.value c.show-done.ensures) a.ensures.done a.ensures.at a.ensures.steps a.ensures.work

pub returns-in-PrintFile : goal.returns-in-PrintFile
returns-in-PrintFile c =
    let t = given_of c.args.script.now in
    let orders = c.args.script.now.orders.items in
    let old = c.args.self.now in
    let x = c.in-PrintFile in
    let a = c.after-in-PrintFile in
    let mid = c.show_in-done.new.self in
    let is : IsAt orders old.at (show_in x.line x.handle x.format (all_placed_of x.args.items) x.next) = order_is orders old.at c.args.order.now (order.PrintFile x.line x.handle x.format x.args x.next) c.requires.stands x.is in
    arm_moves true false t orders (showing_in x.line x.handle x.format (all_placed_of x.args.items)) x.line [] x.next (show_in x.line x.handle x.format (all_placed_of x.args.items) x.next) old c.show_in-done.result mid a.result a.new.self (λ e. absurd (cc)) is (λ n s go. refl) (exact_showing_in x.line x.handle x.format (all_placed_of x.args.items)) c.requires.steps c.requires.waits
    (subst (λ (fs : List Formula). Does true false (showing_in x.line x.handle x.format (all_placed_of fs)) x.line [] old.work c.show_in-done.result mid) c.deref-in-PrintFile.ensures.value c.show_in-done.ensures) a.ensures.done a.ensures.at a.ensures.steps a.ensures.work

pub returns-in-PrintStr : goal.returns-in-PrintStr
returns-in-PrintStr c =
    let t = given_of c.args.script.now in
    let orders = c.args.script.now.orders.items in
    let old = c.args.self.now in
    let x = c.in-PrintStr in
    let a = c.after-in-PrintStr in
    let mid = c.show_to-done.new.self in
    let is : IsAt orders old.at (show_to x.line x.to x.format (all_placed_of x.args.items) x.next) = order_is orders old.at c.args.order.now (order.PrintStr x.line x.to x.format x.args x.next) c.requires.stands x.is in
    arm_moves true false t orders (showing_to x.line x.to x.format (all_placed_of x.args.items)) x.line [] x.next (show_to x.line x.to x.format (all_placed_of x.args.items) x.next) old c.show_to-done.result mid a.result a.new.self (λ e. absurd (cc)) is (λ n s go. refl) (exact_showing_to x.line x.to x.format (all_placed_of x.args.items)) c.requires.steps c.requires.waits
    (subst (λ (fs : List Formula). Does true false (showing_to x.line x.to x.format (all_placed_of fs)) x.line [] old.work c.show_to-done.result mid) c.deref-in-PrintStr.ensures.value c.show_to-done.ensures) a.ensures.done a.ensures.at a.ensures.steps a.ensures.work

pub returns-in-Call : goal.returns-in-Call
returns-in-Call c =
    let t = given_of c.args.script.now in
    let orders = c.args.script.now.orders.items in
    let old = c.args.self.now in
    let x = c.in-Call in
    let a = c.after-in-Call in
    let mid = c.send-done.new.self in
    let is : IsAt orders old.at (send x.line x.op (map handed_of x.args.items) x.next) = order_is orders old.at c.args.order.now (order.Call x.line x.op x.args x.next) c.requires.stands x.is in
    arm_moves true true t orders (sending t x.line x.op (map handed_of x.args.items)) x.line (map handed_of x.args.items) x.next (send x.line x.op (map handed_of x.args.items) x.next) old c.send-done.result mid a.result a.new.self (λ e. (x.op, is)) is (λ n s go. refl) (exact_sending t x.line x.op (map handed_of x.args.items)) c.requires.steps c.requires.waits
    (subst (λ (fs : List Handed). Does true true (sending t x.line x.op (map handed_of fs)) x.line (map handed_of fs) old.work c.send-done.result mid) c.deref-in-Call.ensures.value c.send-done.ensures) a.ensures.done a.ensures.at a.ensures.steps a.ensures.work

pub returns-in-Skip : goal.returns-in-Skip
returns-in-Skip c =
    let t = given_of c.args.script.now in
    let orders = c.args.script.now.orders.items in
    let old = c.args.self.now in
    let x = c.in-Skip in
    let a = c.after in
    let is : IsAt orders old.at (skip x.line x.next) = order_is orders old.at c.args.order.now (order.Skip x.line x.next) c.requires.stands x.is in
    arm_moves true false t orders ended x.line [] x.next (skip x.line x.next) old (Ok tt) old.work a.result a.new.self (λ e. absurd (cc)) is (λ n s go. refl) (λ n s. refl) c.requires.steps c.requires.waits
    (λ n. refl, refl) a.ensures.done a.ensures.at a.ensures.steps a.ensures.work

pub returns-in-Leave : goal.returns-in-Leave
returns-in-Leave c =
    let t = given_of c.args.script.now in
    let orders = c.args.script.now.orders.items in
    let old = c.args.self.now in
    let is : IsAt orders old.at (leave c.in-Leave.line) = order_is orders old.at c.args.order.now (order.Leave c.in-Leave.line) c.requires.stands c.in-Leave.is in
    leaves_moves t orders c.in-Leave.line old c.leave.result c.leave.new.self (record { at = old.at; steps = old.steps; work = c.leave.new.self }) is c.requires.steps c.leave.ensures refl refl refl

pub returns-in-Test : goal.returns-in-Test
returns-in-Test c =
    let x = c.in-Test in
    c.test.ensures (given_of c.args.script.now) c.args.script.now.orders.items (order_is c.args.script.now.orders.items c.args.self.now.at c.args.order.now (order.Test x.line x.value x.yes x.no) c.requires.stands x.is)
