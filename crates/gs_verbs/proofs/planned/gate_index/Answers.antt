use Rattle.std.proofs.Common.{arith}
use Rattle.gs_report.proofs.Telling.{within}
use Rattle.gs_store.proofs.Counting.{few}
use Rattle.gs_verbs.proofs.Entries.{gate_behind, gate_found, gate_missed}
use Rattle.gs_verbs.proofs.planned.gate_index.Goals as goal

pub returns-in-Gate : goal.returns-in-Gate
returns-in-Gate c = λ g gate.
    gate_found c.args.store.now.entries c.loop-e.i c.in-Some.e.now c.in-Gate.g g
    c.in-Some.ensures.value c.in-Gate.is c.loop-e.invariant gate

pub overflow_add-i : goal.overflow_add-i
overflow_add-i c =
    let told = c.in-Some.ensures in
    omega (
      arith,
      within c.args.store.now.entries c.loop-e.i c.in-Some.e.now told.value,
      few c.args.store.now.entries told.in_order,
    )

pub loop-e-smaller : goal.loop-e-smaller
loop-e-smaller c =
    let told = c.in-Some.ensures in
    omega (arith, within c.args.store.now.entries c.loop-e.i c.in-Some.e.now told.value)

pub loop-e-preserved : goal.loop-e-preserved
loop-e-preserved c =
    gate_behind c.args.store.now.entries c.loop-e.i c.in-Some.e.now c.in-Some.ensures.value
    c.in_default-e.not-Gate c.loop-e.invariant

pub returns : goal.returns
returns c = λ g gate.
    gate_missed c.args.store.now.entries c.loop-e.i g c.in_default.ensures.value
    c.loop-e.invariant gate
