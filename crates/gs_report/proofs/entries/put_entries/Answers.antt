use Rattle.std.proofs.Common.{arith}
use Rattle.gs_store.proofs.Counting.{few}
use Rattle.gs_report.specs.Report.{entry_text}
use Rattle.gs_report.proofs.Telling.{line_more, within, item, written}
use Rattle.gs_report.proofs.entries.put_entries.Goals as goal

pub overflow_add-i : goal.overflow_add-i
overflow_add-i c =
    let told = c.in-Some.ensures in
    omega (
      arith,
      within c.args.store.now.entries c.loop-e.i c.in-Some.e.now told.value,
      few c.args.store.now.entries told.in_order,
    )

pub loop-e-smaller : goal.loop-e-smaller
loop-e-smaller c =
    let told = c.in-Some.ensures in
    omega (arith, within c.args.store.now.entries c.loop-e.i c.in-Some.e.now told.value)

pub loop-e-preserved : goal.loop-e-preserved
loop-e-preserved c =
    let told = c.in-Some.ensures in let es = c.args.store.now.entries in
    let now = c.in_ok-put_entry.ensures in
    line_more entry_text es c.loop-e.i c.in-Some.e.now c.args.text.now.items c.loop-e.text.items
    c.put_entry.new.text.items (within es c.loop-e.i c.in-Some.e.now told.value)
    (item es c.loop-e.i c.in-Some.e.now told.value) c.loop-e.invariant now

pub returns : goal.returns
returns c =
    written entry_text c.args.store.now.entries c.loop-e.i c.args.text.now.items
    c.loop-e.text.items c.in_default.ensures.value c.loop-e.invariant
