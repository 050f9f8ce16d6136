use Rattle.std.proofs.Common.{ap, sym, ◌∙◌}
use Rattle.std.specs.List.{list_any}
use Rattle.std.specs.Prelude.{is_some}
use Rattle.gs_main.proofs.Settling.{leave_ends, leave_needs}
use Rattle.gs_main.proofs.work.Work.leave.Goals as goal

pub returns-in-None : goal.returns-in-None
returns-in-None c =
    leave_ends c.args.line c.args.self.now c.stop.new.self c.stop.result c.deref-2.result.now c.first_due.result (ap (list_any is_some) (sym c.deref.ensures.value) ∙ sym c.is_any_open.ensures ∙ c.if-is_any_open.false) c.deref-2.ensures.value c.first_due.ensures c.in-None.is c.stop.ensures.asks c.stop.ensures.kept

pub returns-in-Some : goal.returns-in-Some
returns-in-Some c =
    leave_needs c.args.line c.args.self.now c.trouble.new.self c.trouble.result c.deref-2.result.now c.first_due.result c.in-Some.i c.in-Some.n c.in-Some.place (ap (list_any is_some) (sym c.deref.ensures.value) ∙ sym c.is_any_open.ensures ∙ c.if-is_any_open.false) c.deref-2.ensures.value c.first_due.ensures c.in-Some.is c.trouble.ensures
